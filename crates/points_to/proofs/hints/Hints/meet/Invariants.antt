use Rattle.std.proofs.Common.{length}
use Rattle.points_to.proofs.hints.Hints.meet.Given as goal

abbrev pub decreases-writers : goal.decreases-writers
decreases-writers l = length l.left
