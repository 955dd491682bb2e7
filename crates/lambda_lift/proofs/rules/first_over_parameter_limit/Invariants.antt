use Rattle.std.proofs.Common.{◌≡◌, drop, map}
use Rattle.std.specs.Prelude.{None}
use Rattle.lambda_reader.specs.Code.{function}
use Rattle.lambda_lift.specs.Abstractions.{in_functions}
use Rattle.lambda_lift.specs.Gathered.{program_of_names}
use Rattle.lambda_lift.specs.Broadest.{too_broad}
use Rattle.lambda_lift.proofs.rules.first_over_parameter_limit.Given as goal

abbrev pub invariant-loop-function : goal.invariant-loop-function
invariant-loop-function l = too_broad (program_of_names l.words) l.first
    (in_functions (program_of_names l.words) (map function (drop l.function-index l.functions))) ≡
    too_broad (program_of_names l.words) None
    (in_functions (program_of_names l.words) (map function l.functions))
