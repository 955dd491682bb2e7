use Rattle.std.proofs.Common.{◌≡◌, take, map}
use Rattle.core_reader.specs.Tree.{term, Name}
use Rattle.lambda_lift.proofs.lifted.arguments.Given as goal

abbrev pub invariant-loop-name : goal.invariant-loop-name
invariant-loop-name l = map term l.args ≡ map (λ x. Name x l.at) (take l.name-index l.names)
