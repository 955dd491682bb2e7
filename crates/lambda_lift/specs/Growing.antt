-- The functions that are made of lambdas and local functions, behind others. A device of the
-- proofs.
use Rattle.std.specs.Prelude.{ℕ, List, ◌++◌, ◌+◌, length}
use Rattle.core_reader.specs.Tree as core
use Rattle.lambda_reader.specs.Tree.{Program}
use Rattle.lambda_reader.specs.Code.{Application}
use Rattle.arity_check.specs.Scope.{Scope}
use Rattle.lambda_lift.specs.Abstractions.{Abstraction, count_term}
use Rattle.lambda_lift.specs.Lifted.{lift_term, lift_terms, lifted_functions}

unfoldable pub with_lifted_functions : Program → List core.Function
    → List Abstraction → List core.Function
with_lifted_functions c made as' = made ++ lifted_functions c (length made) as'

-- an application, where the first of its lambdas and local functions has this number
abbrev pub lift_app : Program → Scope → ℕ → Application → core.Application
lift_app c s k app = record {
  head = lift_term c s k app.head;
  args = lift_terms c s (k + count_term c s app.head) app.args;
}
