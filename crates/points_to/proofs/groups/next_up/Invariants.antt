use Rattle.std.proofs.Common.{◌≡◌, ℕ, ◌<◌, ◌≤◌, ◌-◌, length, get_or}
use Rattle.points_to.proofs.groups.next_up.Given as goal

abbrev pub invariant-up : goal.invariant-up
invariant-up l = (i : ℕ) → l.from ≤ i → i < l.k → get_or l.groups i 0 ≡ 0

abbrev pub decreases-up : goal.decreases-up
decreases-up l = length l.groups - l.k
