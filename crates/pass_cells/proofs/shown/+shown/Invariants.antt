use Rattle.std.proofs.Common.{take}
use Rattle.pass_cells.proofs.Collected.{shown}
use Rattle.pass_ground.proofs.Walked.{StmtsSoFar, ArmsSoFar}
use Rattle.pass_cells.proofs.shown.+shown.Given as goal

abbrev pub invariant-alts_shown-loop-alt : goal.invariant-alts_shown-loop-alt
invariant-alts_shown-loop-alt l = ArmsSoFar shown l.initial.words l.words (take l.alt-index l.alts)

abbrev pub invariant-block_shown-loop-stmt : goal.invariant-block_shown-loop-stmt
invariant-block_shown-loop-stmt l = StmtsSoFar shown l.initial.words l.words
    (take l.stmt-index l.stmt-items)
