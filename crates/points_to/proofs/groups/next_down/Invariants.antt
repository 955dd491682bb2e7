use Rattle.std.proofs.Common.{◌≡◌, ℕ, ◌<◌, ◌≤◌, length, get_or}
use Rattle.points_to.proofs.groups.next_down.Given as goal

abbrev pub invariant-down : goal.invariant-down
invariant-down l = record {
  bound : l.k ≤ length l.groups;
  none : (i : ℕ) → l.k ≤ i → i ≤ l.to → i < length l.groups → get_or l.groups i 0 ≡ 0;
}

abbrev pub decreases-down : goal.decreases-down
decreases-down l = l.k
