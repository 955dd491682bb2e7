use Rattle.std.proofs.Common.{◌≡◌, ◌++◌, ◌-◌}
use Rattle.lambda_lift.specs.Lifted.{lifted_names}
use Rattle.lambda_lift.proofs.lifter.with_lifted.Given as goal

abbrev pub invariant-loop-number : goal.invariant-loop-number
invariant-loop-number l = l.entries.items ++ lifted_names l.number (l.count - l.number) ≡ l.fn.names
    ++ lifted_names 0 l.count
