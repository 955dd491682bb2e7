-- Which names are free hangs on the names in scope alone, not on what they stand for.
use Rattle.std.proofs.Common.{◌≡◌, ℕ, Bool, true, false, cond, nat_eq, List, [], ◌∷◌, length, refl, ap, arith}
use Rattle.std.specs.Prelude.{codes, filter}
use Rattle.core_reader.specs.declared.syntax.Binder.{Binder}
use Rattle.lambda_reader.specs.Tree.{Expr, Program}
use Rattle.arity_check.specs.declared.meaning.Meaning.{Meaning}
use Rattle.arity_check.specs.declared.meaning.Meaning.TheVariants.{Local, Function, Primitive, Unbound}
use Rattle.arity_check.specs.Scope.{Scope, primitives, unless_primitive, is_named, primitive_from, found_in, binds, binds_all}
use Rattle.lambda_lift.specs.Headers.{program_headers, names_of, stands_for_local, is_local}
use Rattle.lambda_lift.specs.Free.{uses, without_repeats, free}

-- the same names, in the same order
abbrev pub Alike : Scope → Scope → Type 0
Alike [] [] = Unit {0}
Alike [] (c ∷ t) = ⊥
Alike (b ∷ s) [] = ⊥
Alike (b ∷ s) (c ∷ t) = (c.0 ≡ b.0) × Alike s t

filter_same : (f g : ℕ → Bool) → ((x : ℕ) → g x ≡ f x) → (xs : List ℕ) → filter g xs ≡ filter f xs
filter_same f g e [] = refl
filter_same f g e (x ∷ xs) = λ i. cond (e x i) (x ∷ filter_same f g e xs i) (filter_same f g e xs i)

module _ (c : Program) where
  found_alike : (s t : Scope) (x : ℕ) → Alike s t → stands_for_local c
      (found_in (program_headers c) t x) ≡ stands_for_local c (found_in (program_headers c) s x)
  found_alike [] [] x h = refl
  found_alike [] (b ∷ t) x h = absurd h
  found_alike (b ∷ s) [] x h = absurd h
  found_alike (b ∷ s) (d ∷ t) x h = rw h.0 (by (nat_eq b.0 x) (found_alike s t x h.1))
    where
      by : (same : Bool) → stands_for_local c (found_in (program_headers c) t x) ≡ stands_for_local
          c (found_in (program_headers c) s x)
          → stands_for_local c (cond same (Local d.1) (found_in (program_headers c) t x)) ≡
          stands_for_local c (cond same (Local b.1) (found_in (program_headers c) s x))
      by true e = refl
      by false e = e

  unless_alike : (p m n : Meaning) → stands_for_local c n ≡ stands_for_local c m
      → stands_for_local c (unless_primitive p n) ≡ stands_for_local c (unless_primitive p m)
  unless_alike (Primitive op) m n e = refl
  unless_alike (Local y) m n e = e
  unless_alike (Function f k) m n e = e
  unless_alike Unbound m n e = e

  pub local_alike : (s t : Scope) (x : ℕ) → Alike s t → is_local c t x ≡ is_local c s x
  local_alike s t x h = by (is_named (program_headers c) (codes "_") x)
    where
      p : Meaning
      p = primitive_from (program_headers c) primitives x

      by : (nameless : Bool) → stands_for_local c
          (cond nameless Unbound (unless_primitive p (found_in (program_headers c) t x))) ≡
          stands_for_local c
          (cond nameless Unbound (unless_primitive p (found_in (program_headers c) s x)))
      by true = refl
      by false = unless_alike p (found_in (program_headers c) s x)
          (found_in (program_headers c) t x) (found_alike s t x h)

  pub free_alike : (s t : Scope) (params : List Binder) (e : Expr) → Alike s t
      → free c t params e ≡ free c s params e
  free_alike s t params e h = ap without_repeats
      (filter_same (is_local c s) (is_local c t) (λ x. local_alike s t x h)
      (uses (names_of params) e))

  binds_alike : (x a b : ℕ) (s t : Scope) → Alike s t
      → Alike (binds (program_headers c) x a s) (binds (program_headers c) x b t)
  binds_alike x a b s t h = by (is_named (program_headers c) (codes "_") x)
    where
      by : (nameless : Bool) → Alike (cond nameless s ((x, a) ∷ s)) (cond nameless t ((x, b) ∷ t))
      by true = h
      by false = (refl, h)

  pub binds_all_alike : (xs as' bs : List ℕ) (s t : Scope) → length as' ≡ length xs
      → length bs ≡ length xs → Alike s t → Alike (binds_all (program_headers c) xs as' s)
      (binds_all (program_headers c) xs bs t)
  binds_all_alike [] as' bs s t e f h = h
  binds_all_alike (x ∷ xs) [] bs s t e f h = absurd (omega (arith, e))
  binds_all_alike (x ∷ xs) (a ∷ as') [] s t e f h = absurd (omega (arith, f))
  binds_all_alike (x ∷ xs) (a ∷ as') (b ∷ bs) s t e f h
      = binds_all_alike xs as' bs (binds (program_headers c) x a s)
      (binds (program_headers c) x b t) (omega (arith, e)) (omega (arith, f))
      (binds_alike x a b s t h)
