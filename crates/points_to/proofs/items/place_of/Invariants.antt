use Rattle.std.proofs.Common.{◌-◌}
use Rattle.points_to.specs.PartOrder.{IsPlace}
use Rattle.points_to.proofs.items.place_of.Given as goal

abbrev pub invariant-halving : goal.invariant-halving
invariant-halving l = IsPlace l.rows l.part l.low l.high

abbrev pub decreases-halving : goal.decreases-halving
decreases-halving l = l.high - l.low
