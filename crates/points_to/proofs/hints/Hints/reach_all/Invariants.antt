use Rattle.std.proofs.Common.{length}
use Rattle.points_to.proofs.hints.Hints.reach_all.Given as goal

abbrev pub decreases-writers : goal.decreases-writers
decreases-writers l = length l.left
