use Rattle.std.proofs.Common.{◌≡◌, ◌+◌, ◌-◌, vec_len}
use Rattle.points_to.specs.Waiting.{numbers_at}
use Rattle.points_to.proofs.readers.grow.Given as goal

abbrev pub invariant-growing : goal.invariant-growing
invariant-growing l = numbers_at l.rows.items ≡ numbers_at l.initial.rows.items

abbrev pub decreases-growing : goal.decreases-growing
decreases-growing l = (l.n + 1) - vec_len l.rows
