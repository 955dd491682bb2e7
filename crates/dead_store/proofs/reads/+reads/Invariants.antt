use Rattle.std.proofs.Common.{take}
use Rattle.dead_store.proofs.Collected.{reads}
use Rattle.pass_ground.proofs.Walked.{StmtsSoFar, ArmsSoFar}
use Rattle.dead_store.proofs.reads.+reads.Given as goal

abbrev pub invariant-alts_read-loop-alt : goal.invariant-alts_read-loop-alt
invariant-alts_read-loop-alt l = ArmsSoFar (reads l.updates_count) l.initial.words l.words
    (take l.alt-index l.alts)

abbrev pub invariant-block_reads-loop-stmt : goal.invariant-block_reads-loop-stmt
invariant-block_reads-loop-stmt l = StmtsSoFar (reads l.updates_count) l.initial.words l.words
    (take l.stmt-index l.stmt-items)
