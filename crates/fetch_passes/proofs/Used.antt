-- What is used in a program stays used by its new name, and each word that is fetched is used.
use Rattle.std.proofs.Common.{◌≡◌, ℕ, zero, suc, pos, ◌+◌, ◌≤◌, Bool, true, false, cond, ◌||◌, ◌&&◌, nat_eq, List, [], ◌∷◌, ◌++◌, map, length, refl, ap, ◌∙◌, arith}
use Rattle.seq.proofs.Truth.{or_left, or_right}
use Rattle.seq.proofs.Order.{eq_from, eq_self, eq_false}
use Rattle.grin_syntax.specs.declared.program.VarId.{VarId}
use Rattle.grin_syntax.specs.declared.program.Tag.{Tag}
use Rattle.grin_syntax.specs.declared.program.Cell.{Cell}
use Rattle.grin_syntax.specs.declared.program.Word as W
use Rattle.grin_syntax.specs.declared.program.Word.TheVariants.{Lit, Var, Global, TagWord}
use Rattle.grin_syntax.specs.declared.program.Val as V
use Rattle.grin_syntax.specs.declared.program.Val.TheVariants.{NodeVar, Node, Vector, One}
use Rattle.grin_syntax.specs.declared.program.Target.TheVariants as to
use Rattle.grin_syntax.specs.Tree.{Code, end, store, bind, Act, leaf, unit, fetch, fetch_word, update, eval, apply, call, prim, read, write, case, nested, fail, Arms, no_arm, arm, Procedure}
use Rattle.grin_syntax.specs.Binders.{numbers_of, target_vars, shape_vars, cell_vars, act_vars, code_vars, arms_vars, procs_vars}
use Rattle.grin_syntax.specs.Formed.{AllOf, InScope}
use Rattle.grin_syntax.specs.Fresh.{variable, variables}
use Rattle.grin_meaning.specs.Ready.{NoNodeVar, EachAct, EachCode, EachArms, most_fields, EveryBodyIsOfKind, vectorised_kind}
use Rattle.pass_ground.specs.Uses.{word_is, words_use, val_uses, cells_use, act_uses, code_uses, arms_use, act_mentions}
use Rattle.fetch_passes.specs.Windows.{tests_number, vector_uses, decides, is_case_on_tag, is_passed, owns, act_outside, outside}
use Rattle.fetch_passes.specs.Names.{Names, DeferredField, as_word, as_words, as_val, as_cells, with_hidden, named_if}
use Rattle.fetch_passes.specs.Waits.{deferred_fields_of}
use Rattle.fetch_passes.specs.Split.{fetched_if, word_fetches, front, front_names, fetch_all_words, node_arms, whole_node, split_act, split_code, split_arms, split_procs, made_act, made_code}
use Rattle.fetch_passes.specs.Placed.{CodeFetchesUsed, ActFetchesUsed, ArmsFetchUsed, WordUsed, no_word_fetch_kind}
use Rattle.pass_ground.proofs.Tests.{never_both}
use Rattle.fetch_passes.proofs.Found.{is_waiting, hiding_is, naming_is}
use Rattle.fetch_passes.proofs.Waiting.{waits_in, waits_outside}
use Rattle.fetch_passes.proofs.Once.{first_once, others_once}
use Rattle.seq.specs.Lists.{times}
use Rattle.seq.proofs.Counted.{counts, times_append, one_at}
use Rattle.grin_syntax.proofs.Placed.{same_var}

pub both_or : (a b c d : Bool) → (a ≡ true → c ≡ true) → (b ≡ true → d ≡ true) → (a || b) ≡ true
    → (c || d) ≡ true
both_or true b c d f h e = or_left c d (f refl)
both_or false b c d f h e = or_right c d (h e)

-- ---- words and values

module _ (ks : Names) (z y : VarId) (is : as_word ks (Var z) ≡ Var y) where
  pub word_used : (w : W.Word) → word_is z.0 w ≡ true → word_is y.0 (as_word ks w) ≡ true
  word_used (Lit k) h = cc
  word_used (Global k) h = cc
  word_used (TagWord k) h = cc
  word_used (Var u) h = ap (λ v. word_is y.0 (as_word ks (Var v)))
      (same_var u z (eq_from u.0 z.0 h)) ∙ ap (word_is y.0) is ∙ eq_self y.0

  pub words_used : (ws : List W.Word) → words_use z.0 ws ≡ true
      → words_use y.0 (as_words ks ws) ≡ true
  words_used [] h = cc
  words_used (w ∷ ws) h = both_or (word_is z.0 w) (words_use z.0 ws) (word_is y.0 (as_word ks w))
      (words_use y.0 (as_words ks ws)) (word_used w) (words_used ws) h

  pub val_used : (v : V.Val) → NoNodeVar v → val_uses z.0 v ≡ true
      → val_uses y.0 (as_val ks v) ≡ true
  val_used (NodeVar x) n h = absurd n
  val_used (Node t ws) n h = words_used ws h
  val_used (Vector ws) n h = words_used ws h
  val_used (One w) n h = word_used w h

  cells_used : (cs : List Cell) → AllOf (λ c. NoNodeVar c.val) cs → cells_use z.0 cs ≡ true
      → cells_use y.0 (as_cells ks cs) ≡ true
  cells_used [] n h = cc
  cells_used (c ∷ cs) n h = both_or (val_uses z.0 c.val) (cells_use z.0 cs)
      (val_uses y.0 (as_val ks c.val)) (cells_use y.0 (as_cells ks cs)) (val_used c.val n.0)
      (cells_used cs n.1) h

-- ---- fetches before a block

fetch_used : (y : ℕ) (o : Bool) (x : VarId) (a : W.Word) (i : ℕ) (c : Code) → code_uses y c ≡ true
    → code_uses y (fetched_if o x a i c) ≡ true
unfolding act_mentions
fetch_used y true x a i c h = or_right (word_is y a) (code_uses y c) h
fetch_used y false x a i c h = h

words_after : (y t : ℕ) (b : Code) (a : W.Word) (i : ℕ) (xs : List VarId) (c : Code)
    → code_uses y c ≡ true → code_uses y (word_fetches t b a i xs c) ≡ true
words_after y t b a i [] c h = h
words_after y t b a i (x ∷ xs) c h = fetch_used y (outside t x.0 b) x a i
    (word_fetches t b a (suc i) xs c) (words_after y t b a (suc i) xs c h)

front_after : (y : ℕ) (a : W.Word) (n : ℕ) (ps : List DeferredField) (b c : Code)
    → code_uses y c ≡ true → code_uses y (front a n ps b c) ≡ true
front_after y a n [] b c h = h
front_after y a n (p ∷ ps) b c h = fetch_used y (code_uses p.var.0 b) (variable n) a p.place
    (front a (suc n) ps b c) (front_after y a (suc n) ps b c h)

all_after : (y : ℕ) (a : W.Word) (i : ℕ) (xs : List VarId) (c : Code) → code_uses y c ≡ true
    → code_uses y (fetch_all_words a i xs c) ≡ true
unfolding act_mentions
all_after y a i [] c h = h
all_after y a i (x ∷ xs) c h = or_right (word_is y a) (code_uses y (fetch_all_words a (suc i) xs c))
    (all_after y a (suc i) xs c h)

-- ---- names that stay

pub hiding_stays : (ps : List DeferredField) (ks : Names) (z y : VarId) → is_waiting ps z.0 ≡ false
    → as_word ks (Var z) ≡ Var y → as_word (with_hidden ps ks) (Var z) ≡ Var y
hiding_stays ps ks z y h e = hiding_is ps ks z ∙ ap (λ b. cond b (Lit (pos 0)) (as_word ks (Var z)))
    h ∙ e

front_stays : (n : ℕ) (ps : List DeferredField) (b : Code) (ks : Names) (z y : VarId)
    → is_waiting ps z.0 ≡ false → as_word ks (Var z) ≡ Var y
    → as_word (front_names n ps b ks) (Var z) ≡ Var y
front_stays n [] b ks z y h e = e
front_stays n (p ∷ ps) b ks z y h e = front_stays (suc n) ps b
    (named_if (code_uses p.var.0 b) p.var n ks) z y
    (right (nat_eq p.var.0 z.0) (is_waiting ps z.0) h) (go (code_uses p.var.0 b))
  where
    right : (a b : Bool) → (a || b) ≡ false → b ≡ false
    right true b k = cc
    right false b k = k

    left : (a b : Bool) → (a || b) ≡ false → a ≡ false
    left true b k = k
    left false b k = refl

    go : (o : Bool) → as_word (named_if o p.var n ks) (Var z) ≡ Var y
    go true = naming_is p.var n ks z ∙ ap (λ t. cond t (Var (variable n)) (as_word ks (Var z)))
        (left (nat_eq p.var.0 z.0) (is_waiting ps z.0) h) ∙ e
    go false = e

-- the first that waits has its new name, where it is used and no other has its variable
front_named : (n : ℕ) (p : DeferredField) (ps : List DeferredField) (b : Code) (ks : Names)
    → is_waiting ps p.var.0 ≡ false → code_uses p.var.0 b ≡ true
    → as_word (front_names n (p ∷ ps) b ks) (Var p.var) ≡ Var (variable n)
front_named n p ps b ks h u = front_stays (suc n) ps b (named_if (code_uses p.var.0 b) p.var n ks)
    p.var (variable n) h (go (code_uses p.var.0 b) u)
  where
    go : (o : Bool) → o ≡ true → as_word (named_if o p.var n ks) (Var p.var) ≡ Var (variable n)
    go true e = naming_is p.var n ks p.var ∙ ap
        (λ t. cond t (Var (variable n)) (as_word ks (Var p.var))) (eq_self p.var.0)
    go false e = cc

-- ---- what is used stays used

pub not_here : (z : ℕ) (xs ys : List ℕ) → times z (xs ++ ys) ≡ 0 → (times z xs ≡ 0)
    × (times z ys ≡ 0)
not_here z xs ys h = let e : times z (xs ++ ys) ≡ times z xs + times z ys = times_append z xs ys
    in (omega (arith, e, h), omega (arith, e, h))

pub not_waiting : (t : ℕ) (b : Code) (i : ℕ) (xs : List VarId) (z : ℕ) → times z (numbers_of xs) ≡ 0
    → is_waiting (deferred_fields_of t b i xs) z ≡ false
not_waiting t b i xs z h = go (is_waiting (deferred_fields_of t b i xs) z) refl
  where
    go : (m : Bool) → is_waiting (deferred_fields_of t b i xs) z ≡ m → m ≡ false
    go true q =
        (let k : InScope (numbers_of xs) z = waits_in t b i xs z q in absurd (omega (arith, h, k)))
    go false q = refl

-- ---- uses outside the alternatives are uses

vector_used : (tests : Bool) (z : ℕ) (v : V.Val) → vector_uses tests z v ≡ true
    → val_uses z v ≡ true
vector_used tests z (NodeVar x) h = h
vector_used tests z (Node t ws) h = h
vector_used tests z (One w) h = h
vector_used tests z (Vector []) h = h
vector_used tests z (Vector (w ∷ [])) h = h
vector_used tests z (Vector (w ∷ (u ∷ ws))) h = both_or (word_is z w) (tests && word_is z u)
    (word_is z w) (word_is z u || words_use z ws) (λ e. e)
    (λ e. or_left (word_is z u) (words_use z ws) (go tests e)) h
  where
    go : (t : Bool) → (t && word_is z u) ≡ true → word_is z u ≡ true
    go true e = e
    go false e = cc

decides_used : (z : ℕ) (o : Act) → decides z o ≡ true → act_uses z o ≡ true
unfolding act_mentions
decides_used z (case v as') h = or_left (val_uses z v) (arms_use z as')
    (vector_used (tests_number as') z v h)
decides_used z o h = h

act_outside_used : (t z : ℕ) (o : Act) → act_outside t z o ≡ true → act_uses z o ≡ true
act_outside_used t z o h = go (is_case_on_tag t o) h
  where
    go : (b : Bool) → cond b (decides z o) (act_uses z o) ≡ true → act_uses z o ≡ true
    go true h = decides_used z o h
    go false h = h

outside_used : (t z : ℕ) (b : Code) → outside t z b ≡ true → code_uses z b ≡ true
unfolding outside act_mentions
outside_used t z (end o) h = act_outside_used t z o h
outside_used t z (store cs b) h = h
outside_used t z (bind u o b) h = go (is_passed o) h (λ k. outside_used t z b k)
  where
    go : (p : Bool) → cond p (act_uses z o || outside t z b) (act_outside t z o || code_uses z b) ≡
        true → (outside t z b ≡ true → code_uses z b ≡ true)
        → (act_uses z o || code_uses z b) ≡ true
    go true h f = both_or (act_uses z o) (outside t z b) (act_uses z o) (code_uses z b) (λ e. e) f h
    go false h f = both_or (act_outside t z o) (code_uses z b) (act_uses z o) (code_uses z b)
        (act_outside_used t z o) (λ e. e) h

module _ (ts : List Tag) where
  node_used : (v : VarId) (vs : List VarId) (c : W.Word) (b : Code) (ks : Names) (a : W.Word)
      (ps : List DeferredField) (n : ℕ) (z y : VarId) → as_word ks (Var z) ≡ Var y
      → is_waiting ps z.0 ≡ false → times z.0 (numbers_of (v ∷ vs)) ≡ 0
      → (word_is z.0 c || code_uses z.0 b) ≡ true
      → (as_word (with_hidden (deferred_fields_of v.0 b 1 vs) ks) (Var z) ≡ Var y
      → is_waiting (cond (owns v.0 b) (deferred_fields_of v.0 b 1 vs) ps) z.0 ≡ false
      → code_uses z.0 b ≡ true → code_uses y.0
      (split_code ts (with_hidden (deferred_fields_of v.0 b 1 vs) ks)
      (cond (owns v.0 b) (as_word ks c) a)
      (cond (owns v.0 b) (deferred_fields_of v.0 b 1 vs) ps) (n + 0) b) ≡ true)
      → (word_is y.0 (as_word ks c) || code_uses y.0
      (word_fetches v.0 b (as_word ks c) 1 vs
      (split_code ts (with_hidden (deferred_fields_of v.0 b 1 vs) ks)
      (cond (owns v.0 b) (as_word ks c) a)
      (cond (owns v.0 b) (deferred_fields_of v.0 b 1 vs) ps) (n + 0) b))) ≡ true
  node_used v vs c b ks a ps n z y e w v0 h k = both_or (word_is z.0 c) (code_uses z.0 b)
      (word_is y.0 (as_word ks c))
      (code_uses y.0
      (word_fetches v.0 b (as_word ks c) 1 vs
      (split_code ts (with_hidden (deferred_fields_of v.0 b 1 vs) ks)
      (cond (owns v.0 b) (as_word ks c) a) (cond (owns v.0 b) (deferred_fields_of v.0 b 1 vs) ps)
      (n + 0) b)))
      (word_used ks z y e c)
      (λ u. words_after y.0 v.0 b (as_word ks c) 1 vs _
      (k (hiding_stays (deferred_fields_of v.0 b 1 vs) ks z y none e) (go (owns v.0 b)) u)) h
    where
      none : is_waiting (deferred_fields_of v.0 b 1 vs) z.0 ≡ false
      none = not_waiting v.0 b 1 vs z.0 (omega (arith, v0))

      go : (o : Bool) → is_waiting (cond o (deferred_fields_of v.0 b 1 vs) ps) z.0 ≡ false
      go true = none
      go false = w

  mutual
    unfolding split_act act_mentions act_vars EachAct made_act

    pub act_used : (o : Act) (ks : Names) (a : W.Word) (ps : List DeferredField) (n : ℕ)
        (z y : VarId) → as_word ks (Var z) ≡ Var y → is_waiting ps z.0 ≡ false
        → times z.0 (act_vars o) ≡ 0 → EachAct vectorised_kind o → act_uses z.0 o ≡ true
        → act_uses y.0 (split_act ts ks a ps n o) ≡ true
    act_used (case v as') ks a ps n z y e w v0 x h = both_or (val_uses z.0 v) (arms_use z.0 as')
        (val_uses y.0 (as_val ks v)) (arms_use y.0 (split_arms ts ks a ps n as'))
        (val_used ks z y e v x.1) (arms_used as' ks a ps n z y e w v0 x.2) h
    act_used (nested b) ks a ps n z y e w v0 x h = code_used b ks a [] n z y e refl v0 x.1 h
    act_used (leaf (unit v)) ks a ps n z y e w v0 x h = val_used ks z y e v x.1 h
    act_used (leaf (fetch c)) ks a ps n z y e w v0 x h = word_used ks z y e c h
    act_used (leaf (fetch_word c i)) ks a ps n z y e w v0 x h = word_used ks z y e c h
    act_used (leaf (update c v)) ks a ps n z y e w v0 x h
        = both_or (word_is z.0 c) (val_uses z.0 v) (word_is y.0 (as_word ks c))
        (val_uses y.0 (as_val ks v)) (word_used ks z y e c) (val_used ks z y e v x.1) h
    act_used (leaf (eval c)) ks a ps n z y e w v0 x h = word_used ks z y e c h
    act_used (leaf (apply v c)) ks a ps n z y e w v0 x h
        = both_or (val_uses z.0 v) (word_is z.0 c) (val_uses y.0 (as_val ks v))
        (word_is y.0 (as_word ks c)) (val_used ks z y e v x.1) (word_used ks z y e c) h
    act_used (leaf (call f ws)) ks a ps n z y e w v0 x h = words_used ks z y e ws h
    act_used (leaf (prim f c d)) ks a ps n z y e w v0 x h
        = both_or (word_is z.0 c) (word_is z.0 d) (word_is y.0 (as_word ks c))
        (word_is y.0 (as_word ks d)) (word_used ks z y e c) (word_used ks z y e d) h
    act_used (leaf read) ks a ps n z y e w v0 x h = cc
    act_used (leaf (write c)) ks a ps n z y e w v0 x h = word_used ks z y e c h
    act_used (leaf fail) ks a ps n z y e w v0 x h = cc

    pub code_used : (b : Code) (ks : Names) (a : W.Word) (ps : List DeferredField) (n : ℕ)
        (z y : VarId) → as_word ks (Var z) ≡ Var y → is_waiting ps z.0 ≡ false
        → times z.0 (code_vars b) ≡ 0 → EachCode vectorised_kind b → code_uses z.0 b ≡ true
        → code_uses y.0 (split_code ts ks a ps n b) ≡ true
    code_used (end (leaf (fetch c))) ks a ps n z y e w v0 x h
        = or_left (word_is y.0 (as_word ks c)) _ (word_used ks z y e c h)
    code_used (end o) ks a ps n z y e w v0 x h = act_used o ks a ps n z y e w v0 x h
    code_used (store cs b) ks a ps n z y e w v0 x h
        = both_or (cells_use z.0 cs) (code_uses z.0 b) (cells_use y.0 (as_cells ks cs))
        (code_uses y.0 (split_code ts ks a [] n b)) (cells_used ks z y e cs x.0)
        (code_used b ks a [] n z y e refl (not_here z.0 (cell_vars cs) (code_vars b) v0).1 x.1) h
    code_used (bind (to.Vector (v ∷ vs)) (leaf (fetch c)) b) ks a ps n z y e w v0 x h =
        node_used v vs c b ks a ps n z y e w
        (not_here z.0 (numbers_of (v ∷ vs)) ([] ++ code_vars b) v0).0 h
        (λ f g. code_used b (with_hidden (deferred_fields_of v.0 b 1 vs) ks) _
        (cond (owns v.0 b) (deferred_fields_of v.0 b 1 vs) ps) (n + 0) z y f g
        (not_here z.0 (numbers_of (v ∷ vs)) ([] ++ code_vars b) v0).1 x.2)
    code_used (bind (to.Vector []) (leaf (fetch c)) b) ks a ps n z y e w v0 x h
        = both_or (word_is z.0 c) (code_uses z.0 b) (word_is y.0 (as_word ks c))
        (code_uses y.0 (split_code ts ks a ps (n + 0) b)) (word_used ks z y e c)
        (code_used b ks a ps (n + 0) z y e w v0 x.2) h
    code_used (bind to.Nothing (leaf (fetch c)) b) ks a ps n z y e w v0 x h
        = both_or (word_is z.0 c) (code_uses z.0 b) (word_is y.0 (as_word ks c))
        (code_uses y.0 (split_code ts ks a ps (n + 0) b)) (word_used ks z y e c)
        (code_used b ks a ps (n + 0) z y e w v0 x.2) h
    code_used (bind (to.One u) (leaf (fetch c)) b) ks a ps n z y e w v0 x h
        = both_or (word_is z.0 c) (code_uses z.0 b) (word_is y.0 (as_word ks c))
        (code_uses y.0 (split_code ts ks a ps (n + 0) b)) (word_used ks z y e c)
        (code_used b ks a ps (n + 0) z y e w (not_here z.0 (u.0 ∷ []) (code_vars b) v0).1 x.2) h
    code_used (bind (to.Node u) (leaf (fetch c)) b) ks a ps n z y e w v0 x h = absurd x.0
    code_used (bind t (leaf (fetch_word c i)) b) ks a ps n z y e w v0 x h
        = both_or (word_is z.0 c) (code_uses z.0 b) (word_is y.0 (as_word ks c))
        (code_uses y.0 (split_code ts ks a ps (n + 0) b)) (word_used ks z y e c)
        (code_used b ks a ps (n + 0) z y e w (not_here z.0 (target_vars t) (code_vars b) v0).1 x.2)
        h
    code_used (bind t o b) ks a ps n z y e w v0 x h
        = both_or (act_uses z.0 o) (code_uses z.0 b) (act_uses y.0 (split_act ts ks a ps n o))
        (code_uses y.0 (split_code ts ks a [] (n + made_act ts ps o) b))
        (act_used o ks a ps n z y e w
        (not_here z.0 (act_vars o) (code_vars b)
        (not_here z.0 (target_vars t) (act_vars o ++ code_vars b) v0).1).0 x.1)
        (code_used b ks a [] (n + made_act ts ps o) z y e refl
        (not_here z.0 (act_vars o) (code_vars b)
        (not_here z.0 (target_vars t) (act_vars o ++ code_vars b) v0).1).1 x.2) h

    arms_used : (as' : Arms) (ks : Names) (a : W.Word) (ps : List DeferredField) (n : ℕ)
        (z y : VarId) → as_word ks (Var z) ≡ Var y → is_waiting ps z.0 ≡ false
        → times z.0 (arms_vars as') ≡ 0 → EachArms vectorised_kind as' → arms_use z.0 as' ≡ true
        → arms_use y.0 (split_arms ts ks a ps n as') ≡ true
    arms_used no_arm ks a ps n z y e w v0 x h = cc
    arms_used (arm s b as') ks a ps n z y e w v0 x h
        = both_or (code_uses z.0 b) (arms_use z.0 as')
        (code_uses y.0
        (front a n ps b (split_code ts (front_names n ps b ks) a [] (n + length ps) b)))
        (arms_use y.0 (split_arms ts ks a ps (n + length ps + made_code ts [] b) as'))
        (λ k. front_after y.0 a n ps b _
        (code_used b (front_names n ps b ks) a [] (n + length ps) z y
        (front_stays n ps b ks z y w e) refl
        (not_here z.0 (code_vars b) (arms_vars as')
        (not_here z.0 (shape_vars s) (code_vars b ++ arms_vars as') v0).1).0 x.1 k))
        (arms_used as' ks a ps (n + length ps + made_code ts [] b) z y e w
        (not_here z.0 (code_vars b) (arms_vars as')
        (not_here z.0 (shape_vars s) (code_vars b ++ arms_vars as') v0).1).1 x.2) h

  -- ---- each word that is fetched is used

  abbrev Distinct : List DeferredField → Type 0
  Distinct [] = Unit {0}
  Distinct (p ∷ ps) = (is_waiting ps p.var.0 ≡ false) × Distinct ps

  -- other variables than those in scope have their own names, and what waits is in scope
  record Known (zs : List ℕ) (ks : Names) (ps : List DeferredField) : Type 0 where
    others : (z : VarId) → times z.0 zs ≡ 0 → as_word ks (Var z) ≡ Var z
    inside : (z : ℕ) → is_waiting ps z ≡ true → InScope zs z
    distinct : Distinct ps

  no_wait : (zs : List ℕ) (ks : Names) (ps : List DeferredField) → Known zs ks ps → Known zs ks []
  no_wait zs ks ps x = record { others = x.others; inside = λ z e. cc; distinct = tt }

  word_ok : (i : ℕ) (a : W.Word) (x : VarId) (c : Code) → code_uses x.0 c ≡ true
      → WordUsed (leaf (fetch_word a i)) (to.One x) c
  word_ok zero a x c h = tt
  word_ok (suc i) a x c h = h

  words_ok : (t : ℕ) (b : Code) (a : W.Word) (i : ℕ) (xs : List VarId) (c : Code)
      → ((x : VarId) → InScope (numbers_of xs) x.0 → outside t x.0 b ≡ true
      → code_uses x.0 c ≡ true) → CodeFetchesUsed c → CodeFetchesUsed (word_fetches t b a i xs c)
  unfolding CodeFetchesUsed
  words_ok t b a i [] c f h = h
  words_ok t b a i (x ∷ xs) c f h = go (outside t x.0 b) refl
      (words_ok t b a (suc i) xs c (λ y k. f y (omega (arith, k))) h)
    where
      go : (o : Bool) → outside t x.0 b ≡ o → CodeFetchesUsed (word_fetches t b a (suc i) xs c)
          → CodeFetchesUsed (fetched_if o x a i (word_fetches t b a (suc i) xs c))
      go true q r = (
        word_ok i a x (word_fetches t b a (suc i) xs c)
            (words_after x.0 t b a (suc i) xs c
            (f x (let e : counts (nat_eq x.0 x.0) ≡ 1 = one_at x.0 in omega (arith, e)) q)),
        tt,
        r,
      )
      go false q r = r

  front_ok : (a : W.Word) (n : ℕ) (ps : List DeferredField) (b c : Code) (zs : List ℕ) (ks : Names)
      → Distinct ps → AllOf (λ p. InScope zs p.var.0) ps
      → ((z y : VarId) → as_word (front_names n ps b ks) (Var z) ≡ Var y → InScope zs z.0
      → code_uses z.0 b ≡ true → code_uses y.0 c ≡ true)
      → CodeFetchesUsed c → CodeFetchesUsed (front a n ps b c)
  unfolding CodeFetchesUsed
  front_ok a n [] b c zs ks d i f h = h
  front_ok a n (p ∷ ps) b c zs ks d i f h = go (code_uses p.var.0 b) refl
      (front_ok a (suc n) ps b c zs (named_if (code_uses p.var.0 b) p.var n ks) d.1 i.1 f h)
    where
      go : (o : Bool) → code_uses p.var.0 b ≡ o → CodeFetchesUsed (front a (suc n) ps b c)
          → CodeFetchesUsed (fetched_if o (variable n) a p.place (front a (suc n) ps b c))
      go true q r = (
        word_ok p.place a (variable n) (front a (suc n) ps b c)
            (front_after n a (suc n) ps b c
            (f p.var (variable n) (front_named n p ps b ks d.0 q) i.0 q)),
        tt,
        r,
      )
      go false q r = r

  all_ok : (a : W.Word) (i : ℕ) (xs : List VarId) (c : Code)
      → ((x : VarId) → InScope (numbers_of xs) x.0 → code_uses x.0 c ≡ true) → CodeFetchesUsed c
      → CodeFetchesUsed (fetch_all_words a i xs c)
  unfolding CodeFetchesUsed
  all_ok a i [] c f h = h
  all_ok a i (x ∷ xs) c f h = (
    word_ok i a x (fetch_all_words a (suc i) xs c)
        (all_after x.0 a (suc i) xs c
        (f x (let e : counts (nat_eq x.0 x.0) ≡ 1 = one_at x.0 in omega (arith, e)))),
    tt,
    all_ok a (suc i) xs c (λ y k. f y (omega (arith, k))) h,
  )

  vars_used : (xs : List VarId) (x : ℕ) → InScope (numbers_of xs) x
      → words_use x (map Var xs) ≡ true
  vars_used [] x h = absurd (omega (arith, h))
  vars_used (y ∷ xs) x h = go (nat_eq y.0 x) refl (λ k. vars_used xs x k)
    where
      go : (s : Bool) → nat_eq y.0 x ≡ s →
          (InScope (numbers_of xs) x → words_use x (map Var xs) ≡ true)
          → (s || words_use x (map Var xs)) ≡ true
      go true q f = refl
      go false q f = f
          (let k : counts (nat_eq x y.0) ≡ 0 = ap counts
          (eq_false x y.0 (λ s. never_both (ap (nat_eq y.0) s ∙ eq_self y.0) q))
          in omega (arith, k, h))

  nodes_ok : (xs : List VarId) (i : ℕ) (us : List Tag) → ArmsFetchUsed (node_arms xs i us)
  unfolding CodeFetchesUsed
  nodes_ok xs i [] = tt
  nodes_ok xs i (u ∷ us) = (tt, nodes_ok xs (suc i) us)

  whole_ok : (n : ℕ) (a : W.Word) → CodeFetchesUsed (whole_node ts n a)
  unfolding CodeFetchesUsed act_mentions
  whole_ok n a = all_ok a 0 (variables n (suc (most_fields ts)))
      (end (case (Vector (map Var (variables n (suc (most_fields ts)))))
      (node_arms (variables (suc n) (most_fields ts)) 0 ts)))
      (λ x k. or_left (words_use x.0 (map Var (variables n (suc (most_fields ts)))))
      (arms_use x.0 (node_arms (variables (suc n) (most_fields ts)) 0 ts))
      (vars_used (variables n (suc (most_fields ts))) x.0 k))
      (nodes_ok (variables (suc n) (most_fields ts)) 0 ts)

  waits_distinct : (t : ℕ) (b : Code) (i : ℕ) (xs : List VarId)
      → ((y : ℕ) → times y (numbers_of xs) ≤ 1) → Distinct (deferred_fields_of t b i xs)
  waits_distinct t b i [] once = tt
  waits_distinct t b i (x ∷ xs) once = go (outside t x.0 b)
      (waits_distinct t b (suc i) xs
      (λ y. (let o : times y (x.0 ∷ numbers_of xs) ≤ 1 = once y in omega (arith, o))))
    where
      alone : times x.0 (numbers_of xs) ≡ 0
      alone = let o : times x.0 (x.0 ∷ numbers_of xs) ≤ 1 = once x.0 in let e
          : counts (nat_eq x.0 x.0) ≡ 1 = one_at x.0 in omega (arith, o, e)

      go : (o : Bool) → Distinct (deferred_fields_of t b (suc i) xs)
          → Distinct
          (cond o (deferred_fields_of t b (suc i) xs)
          (record { var = x; place = i } ∷ deferred_fields_of t b (suc i) xs))
      go true d = d
      go false d = (not_waiting t b (suc i) xs x.0 alone, d)

  pub all_in : (zs : List ℕ) (ps : List DeferredField)
      → ((z : ℕ) → is_waiting ps z ≡ true → InScope zs z) → AllOf (λ p. InScope zs p.var.0) ps
  all_in zs [] f = tt
  all_in zs (p ∷ ps) f = (
    f p.var.0 (or_left (nat_eq p.var.0 p.var.0) (is_waiting ps p.var.0) (eq_self p.var.0)),
    all_in zs ps (λ z e. f z (or_right (nat_eq p.var.0 z) (is_waiting ps z) e)),
  )

  pub once_after : (zs xs ys : List ℕ) → ((y : ℕ) → times y zs + times y (xs ++ ys) ≤ 1) → (y : ℕ)
      → times y zs + times y ys ≤ 1
  once_after zs xs ys once y = let o : times y zs + times y (xs ++ ys) ≤ 1 = once y in let e
      : times y (xs ++ ys) ≡ times y xs + times y ys = times_append y xs ys in omega (arith, o, e)

  pub once_before : (zs xs ys : List ℕ) → ((y : ℕ) → times y zs + times y (xs ++ ys) ≤ 1) → (y : ℕ)
      → times y zs + times y xs ≤ 1
  once_before zs xs ys once y = let o : times y zs + times y (xs ++ ys) ≤ 1 = once y in let e
      : times y (xs ++ ys) ≡ times y xs + times y ys = times_append y xs ys in omega (arith, o, e)

  -- a fetch of a node
  module _ (v : VarId) (vs : List VarId) (b : Code) (zs : List ℕ) (ks : Names)
      (ps : List DeferredField) (x : Known zs ks ps)
      (once : (y : ℕ) → times y zs + times y (numbers_of (v ∷ vs) ++ code_vars b) ≤ 1) where
    abbrev ws : List DeferredField
    ws = deferred_fields_of v.0 b 1 vs

    abbrev ys : List ℕ
    ys = numbers_of (v ∷ vs)

    here_once : (y : ℕ) → times y zs + times y ys + times y (code_vars b) ≤ 1
    here_once y = let o : times y zs + times y (ys ++ code_vars b) ≤ 1 = once y in let e
        : times y (ys ++ code_vars b) ≡ times y ys + times y (code_vars b)
        = times_append y ys (code_vars b) in omega (arith, o, e)

    known_after : Known (ys ++ zs) (with_hidden ws ks) (cond (owns v.0 b) ws ps)
    known_after = record {
      others = λ z h.
          (let k : (times z.0 ys ≡ 0) × (times z.0 zs ≡ 0) = not_here z.0 ys zs h
          in hiding_stays ws ks z z (not_waiting v.0 b 1 vs z.0 (omega (arith, k.0)))
          (x.others z k.1));
      inside = λ z e. inside (owns v.0 b) z e;
      distinct = distinct (owns v.0 b);
    }
      where
        inside : (o : Bool) (z : ℕ) → is_waiting (cond o ws ps) z ≡ true → InScope (ys ++ zs) z
        inside true z e = let k : InScope (numbers_of vs) z = waits_in v.0 b 1 vs z e in let t
            : times z (ys ++ zs) ≡ times z ys + times z zs = times_append z ys zs
            in omega (arith, k, t)
        inside false z e = let k : InScope zs z = x.inside z e in let t
            : times z (ys ++ zs) ≡ times z ys + times z zs = times_append z ys zs
            in omega (arith, k, t)

        distinct : (o : Bool) → Distinct (cond o ws ps)
        distinct true = waits_distinct v.0 b 1 vs
            (λ y. (let o : times y zs + times y ys + times y (code_vars b) ≤ 1 = here_once y
            in omega (arith, o)))
        distinct false = x.distinct

    later_once : (y : ℕ) → times y (ys ++ zs) + times y (code_vars b) ≤ 1
    later_once y = let o : times y zs + times y ys + times y (code_vars b) ≤ 1 = here_once y
        in let t : times y (ys ++ zs) ≡ times y ys + times y zs = times_append y ys zs
        in omega (arith, o, t)

    kept_used : (a : W.Word) (n : ℕ) → EachCode vectorised_kind b → (y : VarId)
        → InScope (numbers_of vs) y.0 → outside v.0 y.0 b ≡ true
        → code_uses y.0 (split_code ts (with_hidden ws ks) a (cond (owns v.0 b) ws ps) n b) ≡ true
    kept_used a n e y i o = code_used b (with_hidden ws ks) a (cond (owns v.0 b) ws ps) n y y
        (hiding_stays ws ks y y mine
        (x.others y
        (let q : times y.0 zs + times y.0 ys + times y.0 (code_vars b) ≤ 1 = here_once y.0
        in omega (arith, q, i)))) (go (owns v.0 b))
        (let q : times y.0 zs + times y.0 ys + times y.0 (code_vars b) ≤ 1 = here_once y.0
        in omega (arith, q, i)) e (outside_used v.0 y.0 b o)
      where
        mine : is_waiting ws y.0 ≡ false
        mine = at (is_waiting ws y.0) refl
          where
            at : (m : Bool) → is_waiting ws y.0 ≡ m → m ≡ false
            at true q = never_both o (waits_outside v.0 b 1 vs y.0 q)
            at false q = refl

        old : is_waiting ps y.0 ≡ false
        old = at (is_waiting ps y.0) refl
          where
            at : (m : Bool) → is_waiting ps y.0 ≡ m → m ≡ false
            at true q =
                (let k : InScope zs y.0 = x.inside y.0 q in let r
                : times y.0 zs + times y.0 ys + times y.0 (code_vars b) ≤ 1 = here_once y.0
                in absurd (omega (arith, k, r, i)))
            at false q = refl

        go : (o : Bool) → is_waiting (cond o ws ps) y.0 ≡ false
        go true = mine
        go false = old

  -- at an alternative
  module _ (n : ℕ) (ps : List DeferredField) (b : Code) (zs : List ℕ) (ks : Names)
      (x : Known zs ks ps) where
    known_front : Known zs (front_names n ps b ks) []
    known_front = record {
      others = λ z h. front_stays n ps b ks z z (at z h (is_waiting ps z.0) refl)
          (x.others z h);
      inside = λ z e. cc;
      distinct = tt;
    }
      where
        at : (z : VarId) → times z.0 zs ≡ 0 → (m : Bool) → is_waiting ps z.0 ≡ m → m ≡ false
        at z h true q = (let k : InScope zs z.0 = x.inside z.0 q in absurd (omega (arith, k, h)))
        at z h false q = refl

    front_used : (a : W.Word) (c : Code) →
        ((z y : VarId) → as_word (front_names n ps b ks) (Var z) ≡ Var y → InScope zs z.0
        → code_uses z.0 b ≡ true → code_uses y.0 c ≡ true) → CodeFetchesUsed c
        → CodeFetchesUsed (front a n ps b c)
    front_used a c f h = front_ok a n ps b c zs ks x.distinct (all_in zs ps x.inside) f h

  mutual
    unfolding split_act CodeFetchesUsed act_vars EachAct made_act

    act_fetches : (o : Act) (zs : List ℕ) (ks : Names) (a : W.Word) (ps : List DeferredField)
        (n : ℕ) → Known zs ks ps → ((y : ℕ) → times y zs + times y (act_vars o) ≤ 1)
        → EachAct vectorised_kind o → EachAct no_word_fetch_kind o
        → ActFetchesUsed (split_act ts ks a ps n o)
    act_fetches (case v as') zs ks a ps n x once e h = arms_fetch as' zs ks a ps n x once e.2 h.2
    act_fetches (nested b) zs ks a ps n x once e h = code_fetches b zs ks a [] n
        (no_wait zs ks ps x) once e.1 h.1
    act_fetches o zs ks a ps n x once e h = tt

    code_fetches : (b : Code) (zs : List ℕ) (ks : Names) (a : W.Word) (ps : List DeferredField)
        (n : ℕ) → Known zs ks ps → ((y : ℕ) → times y zs + times y (code_vars b) ≤ 1)
        → EachCode vectorised_kind b → EachCode no_word_fetch_kind b
        → CodeFetchesUsed (split_code ts ks a ps n b)
    code_fetches (end (leaf (fetch c))) zs ks a ps n x once e h = whole_ok n (as_word ks c)
    code_fetches (end o) zs ks a ps n x once e h = act_fetches o zs ks a ps n x once e h
    code_fetches (store cs b) zs ks a ps n x once e h
        = code_fetches b zs ks a [] n (no_wait zs ks ps x)
        (once_after zs (cell_vars cs) (code_vars b) once) e.1 h.1
    code_fetches (bind (to.Vector (v ∷ vs)) (leaf (fetch c)) b) zs ks a ps n x once e h = (
      tt,
      tt,
      words_ok v.0 b (as_word ks c) 1 vs
          (split_code ts (with_hidden (deferred_fields_of v.0 b 1 vs) ks)
          (cond (owns v.0 b) (as_word ks c) a)
          (cond (owns v.0 b) (deferred_fields_of v.0 b 1 vs) ps) (n + 0) b)
          (kept_used v vs b zs ks ps x once (cond (owns v.0 b) (as_word ks c) a) (n + 0) e.2)
          (code_fetches b (numbers_of (v ∷ vs) ++ zs)
          (with_hidden (deferred_fields_of v.0 b 1 vs) ks) (cond (owns v.0 b) (as_word ks c) a)
          (cond (owns v.0 b) (deferred_fields_of v.0 b 1 vs) ps) (n + 0)
          (known_after v vs b zs ks ps x once) (later_once v vs b zs ks ps x once) e.2 h.2),
    )
    code_fetches (bind (to.Vector []) (leaf (fetch c)) b) zs ks a ps n x once e h
        = (tt, tt, code_fetches b zs ks a ps (n + 0) x once e.2 h.2)
    code_fetches (bind to.Nothing (leaf (fetch c)) b) zs ks a ps n x once e h
        = (tt, tt, code_fetches b zs ks a ps (n + 0) x once e.2 h.2)
    code_fetches (bind (to.One u) (leaf (fetch c)) b) zs ks a ps n x once e h
        = (
          tt,
          tt,
          code_fetches b zs ks a ps (n + 0) x (once_after zs (u.0 ∷ []) (code_vars b) once)
              e.2 h.2,
        )
    code_fetches (bind (to.Node u) (leaf (fetch c)) b) zs ks a ps n x once e h = absurd e.0
    code_fetches (bind t (leaf (fetch_word c i)) b) zs ks a ps n x once e h = absurd h.1
    code_fetches (bind t o b) zs ks a ps n x once e h = (
      tt,
      act_fetches o zs ks a ps n x
          (once_before zs (act_vars o) (code_vars b)
          (once_after zs (target_vars t) (act_vars o ++ code_vars b) once)) e.1 h.1,
      code_fetches b zs ks a [] (n + made_act ts ps o) (no_wait zs ks ps x)
          (once_after zs (act_vars o) (code_vars b)
          (once_after zs (target_vars t) (act_vars o ++ code_vars b) once)) e.2 h.2,
    )

    arms_fetch : (as' : Arms) (zs : List ℕ) (ks : Names) (a : W.Word) (ps : List DeferredField)
        (n : ℕ) → Known zs ks ps → ((y : ℕ) → times y zs + times y (arms_vars as') ≤ 1)
        → EachArms vectorised_kind as' → EachArms no_word_fetch_kind as'
        → ArmsFetchUsed (split_arms ts ks a ps n as')
    arms_fetch no_arm zs ks a ps n x once e h = tt
    arms_fetch (arm s b as') zs ks a ps n x once e h =
        let o : (y : ℕ) → times y zs + times y (code_vars b ++ arms_vars as') ≤ 1
        = once_after zs (shape_vars s) (code_vars b ++ arms_vars as') once in
        let ob : (y : ℕ) → times y zs + times y (code_vars b) ≤ 1
        = once_before zs (code_vars b) (arms_vars as') o in (
          front_used n ps b zs ks x a (split_code ts (front_names n ps b ks) a [] (n + length ps) b)
              (λ z y q i u. code_used b (front_names n ps b ks) a [] (n + length ps) z y q refl
              (let k : times z.0 zs + times z.0 (code_vars b) ≤ 1 = ob z.0
              in omega (arith, k, i)) e.1 u)
              (code_fetches b zs (front_names n ps b ks) a [] (n + length ps)
              (known_front n ps b zs ks x) ob e.1 h.1),
          arms_fetch as' zs ks a ps (n + length ps + made_code ts [] b) x
              (once_after zs (code_vars b) (arms_vars as') o) e.2 h.2,
        )

  pub procs_fetch : (qs : List Procedure) (n : ℕ) → ((y : ℕ) → times y (procs_vars qs) ≤ 1)
      → EveryBodyIsOfKind vectorised_kind qs → EveryBodyIsOfKind no_word_fetch_kind qs
      → AllOf (λ q. CodeFetchesUsed q.body) (split_procs ts n qs)
  procs_fetch [] n once e h = tt
  procs_fetch (q ∷ qs) n once e h = (
    code_fetches q.body [] [] (Lit (pos 0)) [] n
        (record { others = λ z k. refl; inside = λ z k. cc; distinct = tt }) here e.0 h.0,
    procs_fetch qs (n + made_code ts [] q.body) later e.1 h.1,
  )
    where
      here : (y : ℕ) → times y [] + times y (code_vars q.body) ≤ 1
      here y = omega (arith, first_once q qs y (once y))

      later : (y : ℕ) → times y (procs_vars qs) ≤ 1
      later y = others_once q qs y (once y)
