-- What a name means is in scope: a name of a normal program is a variable that is bound, or a
-- function that has as many parameters.
use Rattle.std.proofs.Common.{◌≡◌, ℕ, zero, suc, ◌+◌, Bool, true, false, cond, nat_eq, List, [], ◌∷◌, length, Some, slice_get, codes, refl, subst, arith}
use Rattle.std.proofs.lemmas.Slice.Eq.{bytes_eq-Decides}
use Rattle.std.proofs.lemmas.Option.{same_Some, none-some}
use mathlib.Core.Logic.{◌⊎◌, inl, inr}
use Rattle.core_reader.specs.declared.syntax.Pattern.TheVariants as pattern
use Rattle.core_reader.specs.Tree as tree
use Rattle.arity_check.specs.declared.normal.Con as arity
use Rattle.arity_check.specs.declared.normal.Var.TheVariants as var
use Rattle.arity_check.specs.declared.normal.PrimOp.{PrimOp}
use Rattle.arity_check.specs.declared.meaning.Meaning.{Meaning}
use Rattle.arity_check.specs.declared.meaning.Meaning.TheVariants.{Local, Function, Primitive, Unbound}
use Rattle.arity_check.specs.Scope.{Scope, means, unless_primitive, found_in, function_from, primitive_from, primitives, is_named}
use Rattle.arity_check.specs.Broken as broken
use Rattle.arity_check.specs.Normal.{Pairwise, IsFunction, IsNormalForm}
use Rattle.arity_check.specs.Program as normal
use Rattle.arity_check.specs.Program.{Program}
use Rattle.std.specs.Str.{bytes_eq}
use Rattle.core_meaning.specs.WellFormed.{HasParams}

pub record PairAt {X Y : Type 0} (R : X → Y → Type 0) (ys : List Y) (i : ℕ) (x : X) : Type 0 where
  pub other : Y
  pub is : slice_get ys i ≡ Some other
  pub related : R x other

pub pair_at : {X Y : Type 0} (R : X → Y → Type 0) (xs : List X) (ys : List Y) (i : ℕ) (x : X)
    → Pairwise R xs ys → slice_get xs i ≡ Some x → PairAt R ys i x
pair_at R [] ys i x w e = absurd (none-some x e)
pair_at R (z ∷ xs) [] i x w e = absurd w
pair_at R (z ∷ xs) (y ∷ ys) zero x w e = record
    { other = y; is = refl; related = subst (λ z. R z y) (same_Some z x e) w.0 }
pair_at R (z ∷ xs) (y ∷ ys) (suc i) x w e = let r = pair_at R xs ys i x w.1 e
    in record { other = r.other; is = r.is; related = r.related }

pub bytes_same : (a b : List ℕ) → a ≡ b → bytes_eq a b ≡ true
bytes_same a b e = (bytes_eq-Decides a b).1 e

abbrev pub InScope : Scope → ℕ → Type 0
InScope [] x = ⊥
InScope (b ∷ s) x = (x ≡ b.1) ⊎ InScope s x

module _ (p : tree.Program) (q : Program) (nf : IsNormalForm p q) where
  -- ---- what a name means
  abbrev pub MeaningOk : Scope → Meaning → Type 0
  MeaningOk s (Local x) = InScope s x
  MeaningOk s (Function g k) = HasParams q g (λ n. n ≡ k)
  MeaningOk s (Primitive op) = Unit {0}
  MeaningOk s Unbound = Unit {0}

  pub primitive_ok : (s : Scope) (qs : List (List ℕ × PrimOp)) (x : ℕ)
      → MeaningOk s (primitive_from p qs x)
  primitive_ok s [] x = tt
  primitive_ok s (a ∷ qs) x = by_test (is_named p a.0 x) (primitive_ok s qs x)
    where
      by_test : (b : Bool) → MeaningOk s (primitive_from p qs x)
          → MeaningOk s (cond b (Primitive a.1) (primitive_from p qs x))
      by_test true h = tt
      by_test false h = h

  pub function_ok : (s : Scope) (gs : List tree.Function) (hs : List normal.Function) (f x : ℕ)
      → Pairwise (IsFunction p) gs hs →
      ((i : ℕ) (h : normal.Function) → slice_get hs i ≡ Some h → slice_get q.funs (f + i) ≡ Some h)
      → MeaningOk s (function_from p gs f x)
  function_ok s [] hs f x w at = tt
  function_ok s (g ∷ gs) [] f x w at = absurd w
  function_ok s (g ∷ gs) (h ∷ hs) f x w at =
      let z : f + 0 ≡ f = omega arith in
      by_test (nat_eq g.name x)
      (h, subst (λ k. slice_get q.funs k ≡ Some h) z (at 0 h refl), w.0.params)
      (function_ok s gs hs (f + 1) x w.1
      (λ i k e. let z : f + suc i ≡ f + 1 + i = omega arith
      in subst (λ j. slice_get q.funs j ≡ Some k) z (at (suc i) k e)))
    where
      by_test : (b : Bool) → HasParams q f (λ n. n ≡ length g.params)
          → MeaningOk s (function_from p gs (f + 1) x)
          → MeaningOk s (cond b (Function f (length g.params)) (function_from p gs (f + 1) x))
      by_test true i j = i
      by_test false i j = j

  pub later_ok : (b : ℕ × ℕ) (s : Scope) (m : Meaning) → MeaningOk s m → MeaningOk (b ∷ s) m
  later_ok b s (Local x) h = inr h
  later_ok b s (Function g k) h = h
  later_ok b s (Primitive op) h = tt
  later_ok b s Unbound h = tt

  pub found_ok : (s : Scope) (x : ℕ) → MeaningOk s (found_in p s x)
  found_ok [] x = function_ok [] p.functions q.funs 0 x nf.funs
      (λ i h e. let z : 0 + i ≡ i = omega arith in rw z e)
  found_ok (b ∷ s) x = by_test (nat_eq b.0 x) (later_ok b s (found_in p s x) (found_ok s x))
    where
      by_test : (c : Bool) → MeaningOk (b ∷ s) (found_in p s x)
          → MeaningOk (b ∷ s) (cond c (Local b.1) (found_in p s x))
      by_test true h = inl refl
      by_test false h = h

  pub means_ok : (s : Scope) (x : ℕ) → MeaningOk s (means p s x)
  means_ok s x = by_test (is_named p (codes "_") x) (primitive_from p primitives x) (found_ok s x)
    where
      unless_ok : (m : Meaning) → MeaningOk s (found_in p s x)
          → MeaningOk s (unless_primitive m (found_in p s x))
      unless_ok (Primitive op) h = tt
      unless_ok (Local y) h = h
      unless_ok (Function f k) h = h
      unless_ok Unbound h = h

      by_test : (c : Bool) (m : Meaning) → MeaningOk s (found_in p s x)
          → MeaningOk s (cond c Unbound (unless_primitive m (found_in p s x)))
      by_test true m h = tt
      by_test false m h = unless_ok m h
