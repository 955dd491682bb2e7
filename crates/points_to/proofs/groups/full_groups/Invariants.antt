use Rattle.std.proofs.Common.{◌≡◌, ℕ, ◌<◌, ◌*◌, length}
use Rattle.points_to.specs.Held.{In}
use Rattle.points_to.specs.Waiting.{numbers_from}
use Rattle.points_to.proofs.groups.full_groups.Given as goal

abbrev pub invariant-loop-g : goal.invariant-loop-g
invariant-loop-g l = record {
  count : length l.groups.items ≡ l.g;
  all : (n : ℕ) → n < 64 * l.g → In n (numbers_from 0 l.groups.items);
}
