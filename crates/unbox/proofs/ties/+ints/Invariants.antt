use Rattle.std.proofs.Common.{true, take}
use Rattle.points_to.specs.Found.{found}
use Rattle.unbox.proofs.SoFar.{IntsFound}
use Rattle.unbox.proofs.ties.+ints.Given as goal

abbrev pub invariant-alts_ints-loop-alt : goal.invariant-alts_ints-loop-alt
invariant-alts_ints-loop-alt l = IntsFound (found l.flow) true l.all (take l.alt-index l.alts)
