-- What is put before a block where an operation is bound.
use Rattle.std.proofs.Common.{◌≡◌, ℕ, zero, suc, ◌+◌, ◌-◌, ◌<◌, ◌≤◌, Bool, List, [], ◌∷◌, ◌++◌, map, take, drop, length, get_or, refl, sym, ap, ◌∙◌, arith}
use Rattle.std.specs.Prelude.{pos}
use Rattle.std.proofs.lemmas.List.{take_all}
use Rattle.grin_syntax.specs.declared.program.VarId.{VarId}
use Rattle.grin_syntax.specs.declared.program.Word.{Word}
use Rattle.grin_syntax.specs.declared.program.Word.TheVariants.{Lit}
use Rattle.grin_syntax.specs.declared.program.Val.{Val}
use Rattle.grin_syntax.specs.declared.program.Target.{Target}
use Rattle.grin_syntax.specs.declared.program.Target.TheVariants as to
use Rattle.grin_syntax.specs.declared.program.Stmt.{Stmt}
use Rattle.grin_syntax.specs.declared.program.Stmt.TheVariants.{Store, Bind}
use Rattle.grin_syntax.specs.declared.program.Op.{Op}
use Rattle.grin_syntax.specs.declared.program.Op.TheVariants.{Unit as Unit'}
use Rattle.grin_syntax.specs.declared.program.Cell.{Cell}
use Rattle.grin_syntax.specs.Tree.{Code, bind, Act, leaf, unit, act_of, before_of, all_before}
use Rattle.grin_syntax.proofs.TreeOf.{before_of-Store, before_of-Bind, act_of-Unit}
use Rattle.grin_syntax.proofs.Pieces.{all_before_push}
use Rattle.unbox_theory.specs.Ends.{Procedures, act_calls}
use Rattle.unbox_theory.specs.Unboxing.{zeros, tag_and_zeros, without_second, boxed_vector, bound, unbox_act, unbox_code}

-- ---- one statement more

-- these statements, with more of the block before them
abbrev pub Grows : List Stmt → List Stmt → (Code → Code) → Type 0
Grows old new more = (c : Code) → all_before (map before_of new) c ≡ all_before (map before_of old)
    (more c)

pub one_bound : (old new : List Stmt) (t : Target) (o : Op) → new ≡ old ++ Bind t o ∷ []
    → Grows old new (bind t (act_of o))
one_bound old new t o e c = ap (λ l. all_before (map before_of l) c) e ∙ all_before_push old
    (Bind t o) c ∙ ap (λ k. all_before (map before_of old) (k c)) (before_of-Bind t o)

-- ---- a vector

pub short_boxed : (vars : List VarId) (o : Act) (c : Code) → length vars < 2
    → bind (to.Vector vars) o c ≡ boxed_vector vars o c
short_boxed [] o c h = refl
short_boxed (x ∷ []) o c h = refl
short_boxed (x ∷ (y ∷ zs)) o c h = absurd (omega arith)

pub others_left : (vars : List VarId) → 2 ≤ length vars → 1 ≤ length (without_second vars)
others_left [] h = absurd (omega arith)
others_left (x ∷ []) h = absurd (omega arith)
others_left (x ∷ (y ∷ zs)) h = omega arith

pub others_made : (vars items made : List VarId) (i : ℕ) → 2 ≤ length vars → items ≡ drop 2 vars
    → length items ≤ i → made ≡ take 1 vars ++ take i items → made ≡ without_second vars
others_made [] items made i h e le m = absurd (omega arith)
others_made (x ∷ []) items made i h e le m = absurd (omega arith)
others_made (x ∷ (y ∷ zs)) items made i h e le m = m ∙ ap (λ l. x ∷ l) (take_all i items le ∙ e)

pub boxed_long : (vars others : List VarId) (number : VarId) (o : Op) (v : Val)
    (old mid new : List Stmt) → 2 ≤ length vars → number ≡ get_or vars 1 number
    → others ≡ without_second vars → v ≡ tag_and_zeros (length others - 1)
    → Grows old mid (bind (to.One number) (act_of o))
    → Grows mid new (bind (to.Vector others) (act_of (Unit' v))) → (c : Code)
    → all_before (map before_of new) c ≡ all_before (map before_of old)
    (boxed_vector vars (act_of o) c)
boxed_long [] others number o v old mid new h n w t m l c = absurd (omega arith)
boxed_long (x ∷ []) others number o v old mid new h n w t m l c = absurd (omega arith)
boxed_long (x ∷ (y ∷ zs)) others number o v old mid new h n w t m l c =
    l c ∙ m (bind (to.Vector others) (act_of (Unit' v)) c)
    ∙ ap (λ a. all_before (map before_of old)
    (bind (to.One number) (act_of o) (bind (to.Vector others) a c))) (act_of-Unit v)
    ∙ (λ i. all_before (map before_of old)
    (bind (to.One (n i)) (act_of o) (bind (to.Vector (w i)) (leaf (unit (value i))) c)))
  where
    value : v ≡ tag_and_zeros (length zs)
    value = let k : suc (length zs) - 1 ≡ length zs = omega arith
        in t ∙ ap (λ l. tag_and_zeros (length l - 1)) w ∙ ap tag_and_zeros k

-- ---- zeros

zeros_push : (k : ℕ) → zeros k ++ Lit (pos 0) ∷ [] ≡ zeros (suc k)
zeros_push zero = refl
zeros_push (suc k) = ap (λ l. Lit (pos 0) ∷ l) (zeros_push k)

pub one_more_zero : (w : Word) (words more : List Word) (k : ℕ) → words ≡ w ∷ zeros k → more ≡ words
    ++ Lit (pos 0) ∷ [] → more ≡ w ∷ zeros (k + 1)
one_more_zero w words more k e h =
    let n : suc k ≡ k + 1 = omega arith in
    h ∙ ap (λ l. l ++ Lit (pos 0) ∷ []) e ∙ ap (λ l. w ∷ l) (zeros_push k) ∙ ap (λ n. w ∷ zeros n) n

-- ---- statements of a block made anew

module _ (S : Procedures) where
  -- what stands before, made from this statement
  abbrev pub Puts : List Stmt → List Stmt → Stmt → Type 0
  Puts old new s = (bare : Bool) (c : Code) → all_before (map before_of new) (unbox_code S bare c) ≡
      all_before (map before_of old) (unbox_code S bare (before_of s c))

  pub puts_cells : (old new : List Stmt) (s : Stmt) (cs : List Cell) → s ≡ Store cs → new ≡ old
      ++ Store cs ∷ [] → Puts old new s
  unfolding unbox_act
  puts_cells old new s cs e h bare c =
      ap (λ l. all_before (map before_of l) (unbox_code S bare c)) h ∙ all_before_push old
      (Store cs) (unbox_code S bare c) ∙ ap
      (λ k. all_before (map before_of old) (k (unbox_code S bare c))) (before_of-Store cs)
      ∙ sym (ap (λ k. all_before (map before_of old) (unbox_code S bare (k c)))
      (before_of-Store cs)) ∙ sym
      (ap (λ s. all_before (map before_of old) (unbox_code S bare (before_of s c))) e)

  pub puts_bound : (old new : List Stmt) (s : Stmt) (t : Target) (o made : Op) (bare : Bool)
      → s ≡ Bind t o → bare ≡ act_calls S (act_of o) → act_of made ≡ unbox_act S bare (act_of o)
      → Grows old new (bound bare t (act_of made)) → Puts old new s
  unfolding unbox_act
  puts_bound old new s t o made b e q m h bare c =
      h (unbox_code S bare c) ∙
      (λ i. all_before (map before_of old) (bound b t (m i) (unbox_code S bare c)))
      ∙ ap (λ b. all_before (map before_of old)
      (bound b t (unbox_act S b (act_of o)) (unbox_code S bare c))) q
      ∙ sym (ap (λ k. all_before (map before_of old) (unbox_code S bare (k c)))
      (before_of-Bind t o)) ∙ sym
      (ap (λ s. all_before (map before_of old) (unbox_code S bare (before_of s c))) e)
