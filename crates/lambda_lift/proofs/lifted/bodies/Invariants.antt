use Rattle.std.proofs.Common.{◌≡◌, length, map}
use Rattle.core_reader.specs.Tree as core
use Rattle.lambda_reader.specs.Code.{function}
use Rattle.lambda_lift.specs.Abstractions.{in_functions}
use Rattle.lambda_lift.specs.Lifted.{lifted_bodies}
use Rattle.lambda_lift.specs.Gathered.{program_of_names}
use Rattle.lambda_lift.specs.Growing.{with_lifted_functions}
use Rattle.lambda_lift.proofs.lifted.bodies.Given as goal

abbrev pub invariant-loop-function : goal.invariant-loop-function
invariant-loop-function l = record {
  made : map core.function l.made ≡ with_lifted_functions (program_of_names l.words)
      (map core.function l.fn.made)
      (in_functions (program_of_names l.words) (map function l.yielded));
  bodies : map core.function l.bodies ≡ lifted_bodies (program_of_names l.words) (length l.fn.made)
      (map function l.yielded);
}
