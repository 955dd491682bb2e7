use Rattle.std.proofs.Common.{◌+◌, ◌-◌, vec_len}
use Rattle.points_to.proofs.state.grow.Given as goal

abbrev pub invariant-growing : goal.invariant-growing
invariant-growing l = Unit {0}

abbrev pub decreases-growing : goal.decreases-growing
decreases-growing l = (l.n + 1) - vec_len l.sets
