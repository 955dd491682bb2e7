use Rattle.std.proofs.Common.{◌-◌, length}
use Rattle.points_to.proofs.bits.place_from.Given as goal

abbrev pub decreases-passing : goal.decreases-passing
decreases-passing l = length l.blocks - l.at
