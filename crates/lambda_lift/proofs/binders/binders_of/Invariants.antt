use Rattle.std.proofs.Common.{◌≡◌, ◌++◌, drop, map}
use Rattle.lambda_reader.specs.Code.{group_of, member}
use Rattle.lambda_lift.specs.Headers.{binders_of}
use Rattle.lambda_lift.proofs.binders.binders_of.Given as goal

abbrev pub invariant-loop-bind : goal.invariant-loop-bind
invariant-loop-bind l = l.made ++ binders_of (group_of (map member (drop l.bind-index l.group))) ≡
    binders_of (group_of (map member l.group))
