use Rattle.std.proofs.Common.{take}
use Rattle.pass_ground.proofs.Collected.{updated}
use Rattle.pass_ground.proofs.Walked.{StmtsSoFar, ArmsSoFar}
use Rattle.pass_ground.proofs.updated.+updated.Given as goal

abbrev pub invariant-alts_updated-loop-alt : goal.invariant-alts_updated-loop-alt
invariant-alts_updated-loop-alt l = ArmsSoFar updated l.initial.words l.words
    (take l.alt-index l.alts)

abbrev pub invariant-block_updated-loop-stmt : goal.invariant-block_updated-loop-stmt
invariant-block_updated-loop-stmt l = StmtsSoFar updated l.initial.words l.words
    (take l.stmt-index l.stmt-items)
