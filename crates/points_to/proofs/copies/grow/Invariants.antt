use Rattle.std.proofs.Common.{◌≡◌, ◌+◌, ◌-◌, ℕ, vec_len, slice_get}
use Rattle.seq.specs.Lists.{or_empty}
use Rattle.points_to.proofs.copies.grow.Given as goal

abbrev pub invariant-growing : goal.invariant-growing
invariant-growing l = (m : ℕ) → or_empty (slice_get l.rows.items m) ≡ or_empty
    (slice_get l.initial.rows.items m)

abbrev pub decreases-growing : goal.decreases-growing
decreases-growing l = (l.n + 1) - vec_len l.rows
