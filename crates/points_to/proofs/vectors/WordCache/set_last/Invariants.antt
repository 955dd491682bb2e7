use Rattle.std.proofs.Common.{◌≡◌, ◌+◌, ◌-◌, length}
use Rattle.points_to.proofs.vectors.WordCache.set_last.Given as goal

abbrev pub invariant-growing : goal.invariant-growing
invariant-growing l = l.self.entries ≡ l.initial.self.entries

abbrev pub decreases-growing : goal.decreases-growing
decreases-growing l = l.chain + 1 - length l.self.last.items
