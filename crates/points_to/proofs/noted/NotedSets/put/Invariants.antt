use Rattle.std.proofs.Common.{◌≡◌, ◌+◌, ◌-◌, ℕ, length}
use Rattle.points_to.specs.Noted.{noted_at}
use Rattle.points_to.proofs.noted.NotedSets.put.Given as goal

abbrev pub invariant-growing : goal.invariant-growing
invariant-growing l = (m : ℕ) → noted_at l.self m ≡ noted_at l.initial.self m

abbrev pub decreases-growing : goal.decreases-growing
decreases-growing l = l.n + 1 - length l.self.by_number.items
