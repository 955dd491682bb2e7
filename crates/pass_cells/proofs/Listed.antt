-- What the loops over entries, words and cells keep.
use Rattle.std.proofs.Common.{◌≡◌, ℕ, zero, suc, pos, ◌+◌, ◌<◌, ◌≤◌, Bool, true, false, cond, ◌||◌, nat_eq, List, [], ◌∷◌, ◌++◌, take, length, get_or, Option, Some, None, slice_get, refl, sym, ap, ◌∙◌, subst, append_assoc, arith}
use Rattle.std.proofs.lemmas.List.{take_more, take_all, append-nil}
use Rattle.seq.proofs.Lists.{take_next}
use Rattle.seq.proofs.Order.{eq_turned, eq_from}
use Rattle.seq.proofs.Truth.{or_false}
use Rattle.grin_syntax.specs.declared.program.Cell.{Cell}
use Rattle.grin_syntax.specs.declared.program.VarId.{VarId}
use Rattle.grin_syntax.specs.declared.program.Word as W
use Rattle.grin_syntax.specs.declared.program.Word.TheVariants.{Lit, Var}
use Rattle.grin_syntax.specs.declared.program.Val.{Val}
use Rattle.pass_ground.specs.Uses.{words_use}
use Rattle.pass_cells.specs.Shown.{val_words, cells_words}
use Rattle.pass_cells.specs.Memory.{Memory, other, lost, holds, KnownCellContents, with_memory, stored_contents, contents_forgotten, forget, contents_replaced, after_update, after_store, word_at, told}
use Rattle.pass_cells.specs.Entries.{memory_of, memories_from, memories, is_cell, ExtendsEntries}
use Rattle.pass_cells.specs.declared.memory.Entry.{Entry}
use Rattle.pass_cells.proofs.Invariant.{use_append}

-- ---- entries

pub memories_push : (T : KnownCellContents) (es : List Entry) (e : Entry)
    → memories_from T (es ++ e ∷ []) ≡ with_memory e.var.0 (memory_of e.words) (memories_from T es)
memories_push T [] e = refl
memories_push T (x ∷ es) e = memories_push (with_memory x.var.0 (memory_of x.words) T) es e

-- with one entry more, of a variable that may be this one
one_next : {A : Type 0} (f : Memory → A) (x : ℕ) (es : List Entry) (i : ℕ) (e : Entry) (old new : A)
    → i < length es → e ≡ get_or es i e → new ≡ cond (nat_eq e.var.0 x) (f (memory_of e.words)) old
    → old ≡ f (memories (take i es) x) → new ≡ f (memories (take (i + 1) es) x)
one_next f x es i e old new lt at n o = n ∙
    (λ j. cond (eq_turned e.var.0 x j) (f (memory_of e.words)) (o j)) ∙ go (nat_eq x e.var.0)
    (memories (take i es) x) ∙ ap (λ T. f (T x))
    (sym (ap memories (take_next es i e lt at) ∙ memories_push (λ y. other) (take i es) e))
  where
    go : (b : Bool) (m : Memory) → cond b (f (memory_of e.words)) (f m) ≡ f
        (cond b (memory_of e.words) m)
    go true m = refl
    go false m = refl

pub told_next : (k x : ℕ) (es : List Entry) (i : ℕ) (e : Entry) (old new : Option W.Word)
    → i < length es → e ≡ get_or es i e → new ≡ cond (nat_eq e.var.0 x) (told (memory_of e.words) k)
    old → old ≡ told (memories (take i es) x) k → new ≡ told (memories (take (i + 1) es) x) k
told_next k x es i e old new = one_next (λ m. told m k) x es i e old new

cell_of_entry : (o : Option (List W.Word)) → is_cell (memory_of o) ≡ true
cell_of_entry None = refl
cell_of_entry (Some ws) = refl

pub found_next : (x : ℕ) (es : List Entry) (i : ℕ) (e : Entry) (old new : Bool) → i < length es
    → e ≡ get_or es i e → new ≡ (old || nat_eq e.var.0 x) → old ≡ is_cell (memories (take i es) x)
    → new ≡ is_cell (memories (take (i + 1) es) x)
found_next x es i e old new lt at n o = one_next is_cell x es i e old new lt at
    (n ∙ go old (nat_eq e.var.0 x) ∙ ap (λ b. cond (nat_eq e.var.0 x) b old)
    (sym (cell_of_entry e.words))) o
  where
    go : (a b : Bool) → (a || b) ≡ cond b true a
    go true true = refl
    go true false = refl
    go false true = refl
    go false false = refl

pub all_is : {A : Type 0} (f : List Entry → A) (es : List Entry) (i : ℕ) (new : A) → length es ≤ i
    → new ≡ f (take i es) → new ≡ f es
all_is f es i new le h = h ∙ ap f (take_all i es le)

pub word_some : (ws : List W.Word) (i : ℕ) (w : W.Word) → slice_get ws i ≡ Some w → w ≡ word_at ws i
word_some [] i w e = cc
word_some (a ∷ ws) zero w e = cc
word_some (a ∷ ws) (suc i) w e = word_some ws i w e

pub word_none : (ws : List W.Word) (i : ℕ) → slice_get ws i ≡ None → Lit (pos 0) ≡ word_at ws i
word_none [] i e = refl
word_none (a ∷ ws) zero e = cc
word_none (a ∷ ws) (suc i) e = word_none ws i e

-- ---- one entry more, or none

same_with : (T : KnownCellContents) (x : ℕ) (m n : Memory) → T x ≡ m → m ≡ n → with_memory x n T ≡ T
same_with T x m n e f = λ i y. go y (nat_eq y x) refl i
  where
    go : (y : ℕ) (b : Bool) → nat_eq y x ≡ b → cond b n (T y) ≡ T y
    go y true q = sym f ∙ sym e ∙ ap T (sym (eq_from y x q))
    go y false q = refl

not_cell : (m : Memory) → is_cell m ≡ false → m ≡ other
not_cell other e = refl
not_cell lost e = cc
not_cell (holds ws) e = cc

replaced_cell : (m n : Memory) → is_cell m ≡ true → contents_replaced m n ≡ n
replaced_cell other n e = cc
replaced_cell lost n e = refl
replaced_cell (holds ws) n e = refl

forgotten_cell : (m : Memory) → is_cell m ≡ true → contents_forgotten m ≡ lost
forgotten_cell other e = cc
forgotten_cell lost e = refl
forgotten_cell (holds ws) e = refl

pub updated_new : (x : VarId) (v : Val) (es new : List Entry) (words : Option (List W.Word))
    → is_cell (memories es x.0) ≡ true → memory_of words ≡ stored_contents v → new ≡ es
    ++ record { var = x; words = words } ∷ [] → memories new ≡ after_update (Var x) v (memories es)
updated_new x v es new words c h p = ap memories p ∙ memories_push (λ y. other) es
    (record { var = x; words = words }) ∙ ap (λ m. with_memory x.0 m (memories es))
    (h ∙ sym (replaced_cell (memories es x.0) (stored_contents v) c))

pub updated_not : (x : VarId) (v : Val) (es : List Entry) → is_cell (memories es x.0) ≡ false
    → memories es ≡ after_update (Var x) v (memories es)
updated_not x v es c = sym
    (same_with (memories es) x.0 other (contents_replaced (memories es x.0) (stored_contents v))
    (not_cell (memories es x.0) c)
    (ap (λ m. contents_replaced m (stored_contents v)) (sym (not_cell (memories es x.0) c))))

use_one : (x y : ℕ) → (nat_eq x y || false) ≡ nat_eq y x
use_one x y = or_false (nat_eq x y) ∙ eq_turned x y

forget_is : (x : VarId) (T : KnownCellContents) → forget (Var x ∷ []) T ≡ with_memory x.0
    (contents_forgotten (T x.0)) T
forget_is x T = λ i y. go y (nat_eq y x.0) refl i
  where
    go : (y : ℕ) (b : Bool) → nat_eq y x.0 ≡ b → cond (nat_eq x.0 y || false)
        (contents_forgotten (T y)) (T y) ≡ cond (nat_eq y x.0) (contents_forgotten (T x.0)) (T y)
    go y true q = (λ i. cond (use_one x.0 y i) (contents_forgotten (T y)) (T y)) ∙
        (λ i. cond (q i) (contents_forgotten (T y)) (T y)) ∙ ap (λ z. contents_forgotten (T z))
        (eq_from y x.0 q) ∙ (λ i. cond (sym q i) (contents_forgotten (T x.0)) (T y))
    go y false q = (λ i. cond (use_one x.0 y i) (contents_forgotten (T y)) (T y)) ∙
        (λ i. cond (q i) (contents_forgotten (T y)) (T y)) ∙
        (λ i. cond (sym q i) (contents_forgotten (T x.0)) (T y))

pub forgot_new : (x : VarId) (es new : List Entry) → is_cell (memories es x.0) ≡ true → new ≡ es
    ++ record { var = x; words = None } ∷ [] → memories new ≡ forget (Var x ∷ []) (memories es)
forgot_new x es new c p = ap memories p ∙ memories_push (λ y. other) es
    (record { var = x; words = None }) ∙ ap (λ m. with_memory x.0 m (memories es))
    (sym (forgotten_cell (memories es x.0) c)) ∙ sym (forget_is x (memories es))

pub forgot_not : (x : VarId) (es : List Entry) → is_cell (memories es x.0) ≡ false
    → memories es ≡ forget (Var x ∷ []) (memories es)
forgot_not x es c = sym
    (forget_is x (memories es) ∙ same_with (memories es) x.0 other
    (contents_forgotten (memories es x.0)) (not_cell (memories es x.0) c)
    (ap contents_forgotten (sym (not_cell (memories es x.0) c))))

pub extends_push : (es new : List Entry) (e : Entry) → new ≡ es ++ e ∷ [] → ExtendsEntries es new
extends_push es new e p = (e ∷ [], p)

pub extends_same : (es : List Entry) → ExtendsEntries es es
extends_same es = ([], sym (append-nil es))

pub extends_more : (a b c : List Entry) → ExtendsEntries a b → ExtendsEntries b c
    → ExtendsEntries a c
extends_more a b c h k = (h.0 ++ k.0, k.1 ∙ ap (λ l. l ++ k.0) h.1 ∙ append_assoc a h.0 k.0)

-- ---- words that are forgotten, one by one

twice : (m : Memory) → contents_forgotten (contents_forgotten m) ≡ contents_forgotten m
twice other = refl
twice lost = refl
twice (holds ws) = refl

forget_again : (ws us : List W.Word) (T : KnownCellContents)
    → forget (ws ++ us) T ≡ forget us (forget ws T)
forget_again ws us T = λ i y.
    (ap (λ b. cond b (contents_forgotten (T y)) (T y)) (use_append y ws us) ∙ go (words_use y ws)
    (words_use y us) (T y)) i
  where
    go : (a b : Bool) (m : Memory) → cond (a || b) (contents_forgotten m) m ≡ cond b
        (contents_forgotten (cond a (contents_forgotten m) m)) (cond a (contents_forgotten m) m)
    go true true m = sym (twice m)
    go true false m = refl
    go false true m = refl
    go false false m = refl

pub record ForgetSoFar (old new : List Entry) (ws : List W.Word) : Type 0 where
  pub is : memories new ≡ forget ws (memories old)
  pub more : ExtendsEntries old new

pub forget_none : (es : List Entry) → ForgetSoFar es es []
forget_none es = record { is = refl; more = extends_same es }

pub forget_next : (old mid new : List Entry) (ws : List W.Word) (i : ℕ) (d : W.Word) → i < length ws
    → memories new ≡ forget (get_or ws i d ∷ []) (memories mid) → ExtendsEntries mid new
    → ForgetSoFar old mid (take i ws) → ForgetSoFar old new (take (i + 1) ws)
forget_next old mid new ws i d lt e m h = subst (ForgetSoFar old new) (sym (take_more ws i d lt))
    (record {
      is = e ∙ ap (forget (get_or ws i d ∷ [])) h.is ∙ sym
          (forget_again (take i ws) (get_or ws i d ∷ []) (memories old));
      more
          = extends_more old mid new h.more m;
    })

pub forget_all : (old new : List Entry) (ws : List W.Word) (i : ℕ) → length ws ≤ i
    → ForgetSoFar old new (take i ws) → ForgetSoFar old new ws
forget_all old new ws i le h = subst (ForgetSoFar old new) (take_all i ws le) h

-- ---- cells that are stored, one by one

module _ (own : ℕ → Bool) where
  store_again : (cs : List Cell) (c : Cell) (T : KnownCellContents)
      → after_store own (cs ++ c ∷ []) T ≡ after_store own (c ∷ []) (after_store own cs T)
  store_again [] c T = refl
  store_again (d ∷ cs) c T = store_again cs c
      (cond (own d.var.0) (with_memory d.var.0 (stored_contents d.val) T) T)

  pub record StoreSoFar (old new : List Entry) (cs : List Cell) : Type 0 where
    pub is : memories new ≡ after_store own cs (memories old)
    pub more : ExtendsEntries old new

  pub store_none : (es : List Entry) → StoreSoFar es es []
  store_none es = record { is = refl; more = extends_same es }

  pub store_next : (old mid new : List Entry) (cs : List Cell) (i : ℕ) (c : Cell) → i < length cs
      → c ≡ get_or cs i c → memories new ≡ after_store own (c ∷ []) (memories mid)
      → ExtendsEntries mid new → StoreSoFar old mid (take i cs)
      → StoreSoFar old new (take (i + 1) cs)
  store_next old mid new cs i c lt at e m h = subst (StoreSoFar old new)
      (sym (take_next cs i c lt at))
      (record {
        is = e ∙ ap (after_store own (c ∷ [])) h.is ∙ sym
            (store_again (take i cs) c (memories old));
        more = extends_more old mid new h.more m;
      })

  pub store_all : (old new : List Entry) (cs : List Cell) (i : ℕ) → length cs ≤ i
      → StoreSoFar old new (take i cs) → StoreSoFar old new cs
  store_all old new cs i le h = subst (StoreSoFar old new) (take_all i cs le) h

  pub store_new : (c : Cell) (es new : List Entry) (words : Option (List W.Word))
      → own c.var.0 ≡ true → memory_of words ≡ stored_contents c.val → new ≡ es
      ++ record { var = c.var; words = words } ∷ []
      → memories new ≡ after_store own (c ∷ []) (memories es)
  store_new c es new words o h p = ap memories p ∙ memories_push (λ y. other) es
      (record { var = c.var; words = words }) ∙ ap (λ m. with_memory c.var.0 m (memories es)) h ∙ ap
      (λ b. cond b (with_memory c.var.0 (stored_contents c.val) (memories es)) (memories es))
      (sym o)

  pub store_not : (c : Cell) (es : List Entry) → own c.var.0 ≡ false
      → memories es ≡ after_store own (c ∷ []) (memories es)
  store_not c es o = ap
      (λ b. cond b (with_memory c.var.0 (stored_contents c.val) (memories es)) (memories es))
      (sym o)

-- ---- the words of cells

pub cells_next : (cs : List Cell) (i : ℕ) (c : Cell) (first old new : List W.Word) → i < length cs
    → c ≡ get_or cs i c → old ≡ first ++ cells_words (take i cs) → new ≡ old ++ val_words c.val
    → new ≡ first ++ cells_words (take (i + 1) cs)
cells_next cs i c first old new lt at o n = n ∙ ap (λ l. l ++ val_words c.val) o ∙ append_assoc
    first (cells_words (take i cs)) (val_words c.val) ∙ ap (λ l. first ++ l)
    (sym (ap cells_words (take_next cs i c lt at) ∙ push (take i cs)))
  where
    push : (ds : List Cell) → cells_words (ds ++ c ∷ []) ≡ cells_words ds ++ val_words c.val
    push [] = append-nil (val_words c.val)
    push (d ∷ ds) = ap (λ l. val_words d.val ++ l) (push ds) ∙ sym
        (append_assoc (val_words d.val) (cells_words ds) (val_words c.val))

pub cells_done : (cs : List Cell) (i : ℕ) (first new : List W.Word) → length cs ≤ i → new ≡ first
    ++ cells_words (take i cs) → new ≡ first ++ cells_words cs
cells_done cs i first new le h = h ∙ ap (λ l. first ++ cells_words l) (take_all i cs le)

-- ---- the first so many

pub cut_one : (k : ℕ) (es : List Entry) (e : Entry) → k ≤ length es
    → take k (es ++ e ∷ []) ≡ take k es
cut_one zero es e le = refl
cut_one (suc k) [] e le = absurd (omega (arith, le))
cut_one (suc k) (x ∷ es) e le = ap (λ l. x ∷ l) (cut_one k es e (omega (arith, le)))

pub cut_back : (old new : List Entry) → ExtendsEntries old new → take (length old) new ≡ old
cut_back old new h = ap (take (length old)) h.1 ∙ go old h.0
  where
    go : (xs ys : List Entry) → take (length xs) (xs ++ ys) ≡ xs
    go [] ys = refl
    go (x ∷ xs) ys = ap (λ l. x ∷ l) (go xs ys)

pub extends_long : (old new : List Entry) → ExtendsEntries old new → length old ≤ length new
extends_long old new h = subst (λ l. length old ≤ length l) (sym h.1) (go old h.0)
  where
    go : (xs ys : List Entry) → length xs ≤ length (xs ++ ys)
    go [] ys = omega arith
    go (x ∷ xs) ys = let l : length xs ≤ length (xs ++ ys) = go xs ys in omega (arith, l)
