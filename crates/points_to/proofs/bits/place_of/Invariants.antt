use Rattle.std.proofs.Common.{◌-◌}
use Rattle.points_to.specs.Bits.{IsPlace}
use Rattle.points_to.proofs.bits.place_of.Given as goal

abbrev pub invariant-halving : goal.invariant-halving
invariant-halving l = IsPlace l.blocks l.number l.low l.high

abbrev pub decreases-halving : goal.decreases-halving
decreases-halving l = l.high - l.low
