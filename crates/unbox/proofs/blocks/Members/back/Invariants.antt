use Rattle.std.proofs.Common.{◌≤◌, length}
use Rattle.unbox.proofs.Sweeping.{Back}
use Rattle.unbox.proofs.blocks.Members.back.Given as goal

abbrev pub invariant-back : goal.invariant-back
invariant-back l = record
    { within : l.left ≤ length l.ties; some : Back l.ties l.initial.self.inside l.self.inside }

abbrev pub decreases-back : goal.decreases-back
decreases-back l = l.left
