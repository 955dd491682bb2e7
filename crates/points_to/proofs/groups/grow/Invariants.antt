use Rattle.std.proofs.Common.{◌≡◌, ◌+◌, ◌-◌, ◌≤◌, ◌^◌, length, vec_len}
use Rattle.points_to.specs.Waiting.{numbers_from}
use Rattle.points_to.proofs.groups.grow.Given as goal

abbrev pub invariant-growing : goal.invariant-growing
invariant-growing l = record {
  small : length l.groups.items ≤ 2 ^ 26;
  same : numbers_from 0 l.groups.items ≡ numbers_from 0 l.initial.groups.items;
}

abbrev pub decreases-growing : goal.decreases-growing
decreases-growing l = (l.k + 1) - vec_len l.groups
