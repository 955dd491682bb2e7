use Rattle.std.proofs.Common.{◌≡◌, ◌+◌, ◌-◌, length}
use Rattle.points_to.specs.Stored.{sets_at}
use Rattle.points_to.proofs.stored.grow.Given as goal

abbrev pub invariant-growing : goal.invariant-growing
invariant-growing l = sets_at l.sets.items ≡ sets_at l.initial.sets.items

abbrev pub decreases-growing : goal.decreases-growing
decreases-growing l = l.n + 1 - length l.sets.items
