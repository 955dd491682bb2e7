use Rattle.std.proofs.Common.{◌≤◌, length}
use Rattle.flow_system.specs.Starts.{NoPartTagBeforeStart}
use Rattle.flow_system.proofs.starts.partial_tag_starts.Given as goal

abbrev pub invariant-back : goal.invariant-back
invariant-back l = record
    { within : l.at ≤ length l.tags; begin : NoPartTagBeforeStart l.tags l.starts.items l.at }

abbrev pub decreases-back : goal.decreases-back
decreases-back l = l.at
