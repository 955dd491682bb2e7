-- The first lambda that has too many free names and parameters. A device of the proofs.
use Rattle.std.specs.Prelude.{ℕ, ◌+◌, nat_lt, Bool, List, [], ◌∷◌, ◌++◌, length, cond, Option, Some, None}
use Rattle.core_reader.specs.declared.syntax.Binder.{Binder}
use Rattle.lambda_reader.specs.Tree.{Expr, Program}
use Rattle.lambda_reader.specs.Code.{Application}
use Rattle.arity_check.specs.Scope.{Scope}
use Rattle.lambda_lift.specs.Free.{free}
use Rattle.lambda_lift.specs.Abstractions.{Abstraction, in_term, in_terms}

abbrev pub abstraction : Scope → List Binder → Expr → ℕ → Abstraction
abstraction s params body at = record { scope = s; params = params; body = body; at = at }

-- the lambdas and local functions in an application
abbrev pub lambdas_in_application : Program → Scope → Application → List Abstraction
lambdas_in_application c s app = in_term c s app.head ++ in_terms c s app.args

abbrev pub earlier : Option ℕ → ℕ → ℕ
earlier None at = at
earlier (Some met) at = cond (nat_lt at met) at met

-- the first of the places that were met, with one more where a rule is broken
abbrev pub earlier_place_if : Bool → ℕ → Option ℕ → Option ℕ
earlier_place_if is_broken at first = cond is_broken (Some (earlier first at)) first

abbrev pub exceeds_parameter_limit : Program → Abstraction → Bool
exceeds_parameter_limit c a = nat_lt 12 (length (free c a.scope a.params a.body) + length a.params)

unfoldable pub too_broad : Program → Option ℕ → List Abstraction → Option ℕ
too_broad c first [] = first
too_broad c first (a ∷ rest) =
    too_broad c (earlier_place_if (exceeds_parameter_limit c a) a.at first) rest
