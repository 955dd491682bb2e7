use Rattle.std.proofs.Common.{take}
use Rattle.points_to.specs.Found.{found}
use Rattle.unbox.proofs.SoFar.{ArmTies, TiesFound}
use Rattle.unbox.proofs.ties.+ties.Given as goal

abbrev pub invariant-alts_ties-loop-alt : goal.invariant-alts_ties-loop-alt
invariant-alts_ties-loop-alt l = ArmTies (found l.flow) l.initial.out l.out
    (take l.alt-index l.alts)

abbrev pub invariant-block_ties-loop-stmt : goal.invariant-block_ties-loop-stmt
invariant-block_ties-loop-stmt l = TiesFound (found l.flow) l.initial.out l.out
    (take l.stmt-index l.stmt-items)
