use Rattle.std.proofs.Common.{◌≡◌, ℕ, Bool, true, false, nat_eq, [], ◌∷◌, refl, ap, ◌∙◌, arith, Some}
use Rattle.std.specs.Prelude.{is_some, ◌||◌, if◌then◌else◌}
use Rattle.seq.specs.Lists.{is_among}
use Rattle.arity_check.specs.Scope.{Scope}
use Rattle.arity_check.specs.Locals.{innermost_local}
use Rattle.lambda_lift.specs.Gathered.{scope_names}
use Rattle.lambda_lift.proofs.free.is_hidden.Goals as goal

same_test : (a b : ℕ) → nat_eq a b ≡ nat_eq b a
same_test a b = grind arith

hidden : (s : Scope) (x : ℕ) → is_some (innermost_local s x) ≡ is_among x (scope_names s)
hidden [] x = refl
hidden (b ∷ s) x = by (nat_eq b.0 x) (hidden s x) ∙ ap (λ t. t || is_among x (scope_names s))
    (same_test b.0 x)
  where
    by : (t : Bool) → is_some (innermost_local s x) ≡ is_among x (scope_names s)
        → is_some (if t then Some b.1 else innermost_local s x) ≡ (t || is_among x (scope_names s))
    by true h = refl
    by false h = h

pub returns : goal.returns
returns c = c.is_some.ensures ∙ ap is_some c.find.ensures ∙ hidden c.args.inside.now c.args.name.0
