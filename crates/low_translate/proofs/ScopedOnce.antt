-- Variables in scope and those that a piece binds: each once, and all below the first number that
-- is free.
use Rattle.std.proofs.Common.{◌≡◌, ◌≤◌, ◌<◌, ℕ, ◌+◌, cond, List, [], ◌∷◌, ◌++◌, refl, sym, subst, arith}
use Rattle.std.proofs.lemmas.Bool.{eq-eqb}
use Rattle.grin_syntax.specs.Formed.{AllOf}
use Rattle.seq.specs.Lists.{times}
use Rattle.seq.proofs.Counted.{times_append}

-- the variables in scope, and those that are bound from here on
pub record Scoped (first : ℕ) (scope vars : List ℕ) : Type 0 where
  pub once : (x : ℕ) → times x scope + times x vars ≤ 1
  pub below : (x : ℕ) → 0 < times x scope + times x vars → x < first

pub all_below : (first : ℕ) (xs : List ℕ) → ((x : ℕ) → 0 < times x xs → x < first)
    → AllOf (λ x. x < first) xs
all_below first [] h = tt
all_below first (x ∷ xs) h = (
  h x (subst (λ b. 0 < cond b 1 0 + times x xs) (sym (eq-eqb x x refl)) (omega arith)),
  all_below first xs (λ y lt. h y (omega (arith, lt))),
)

module _ (first : ℕ) (scope xs ys : List ℕ) (s : Scoped first scope (xs ++ ys)) where
  pub scoped_front : Scoped first scope xs
  scoped_front = record {
    once = λ x. let a = s.once x in let b = times_append x xs ys in omega (arith, a, b);
    below = λ x lt. s.below x (let b = times_append x xs ys in omega (arith, lt, b));
  }

  pub scoped_back : Scoped first scope ys
  scoped_back = record {
    once = λ x. let a = s.once x in let b = times_append x xs ys in omega (arith, a, b);
    below = λ x lt. s.below x (let b = times_append x xs ys in omega (arith, lt, b));
  }

  -- once the first ones are bound
  pub scoped_rest : Scoped first (xs ++ scope) ys
  scoped_rest = record {
    once = λ x. let a = s.once x in let b = times_append x xs ys in let c = times_append x xs scope
        in omega (arith, a, b, c);
    below = λ x lt. s.below x
        (let b = times_append x xs ys in let c = times_append x xs scope
        in omega (arith, lt, b, c));
  }

  pub scoped_apart : (x : ℕ) → 0 < times x scope → times x xs ≡ 0
  scoped_apart x lt = let a = s.once x in let b = times_append x xs ys in omega (arith, lt, a, b)

  pub scoped_once : (x : ℕ) → times x xs ≤ 1
  scoped_once x = let a = s.once x in let b = times_append x xs ys in omega (arith, a, b)

  pub scoped_below : AllOf (λ x. x < first) xs
  scoped_below = all_below first xs
      (λ x lt. s.below x (let b = times_append x xs ys in omega (arith, lt, b)))
