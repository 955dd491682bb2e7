use Rattle.std.proofs.Common.{◌≡◌, take}
use Rattle.lambda_lift.specs.Lifted.{parameters}
use Rattle.lambda_lift.proofs.lifted.parameters.Given as goal

abbrev pub invariant-loop-name : goal.invariant-loop-name
invariant-loop-name l = l.params ≡ parameters l.at (take l.name-index l.names)
