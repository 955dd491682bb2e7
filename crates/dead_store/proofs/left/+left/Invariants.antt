use Rattle.std.proofs.Common.{take}
use Rattle.dead_store.specs.Holding.{set_holds}
use Rattle.dead_store.proofs.Collected.{left}
use Rattle.pass_ground.proofs.Walked.{StmtsSoFar, ArmsSoFar}
use Rattle.dead_store.proofs.left.+left.Given as goal

abbrev pub invariant-alts_left-loop-alt : goal.invariant-alts_left-loop-alt
invariant-alts_left-loop-alt l = ArmsSoFar (left (set_holds l.sites.keys)) l.initial.left l.left
    (take l.alt-index l.alts)

abbrev pub invariant-block_left-loop-stmt : goal.invariant-block_left-loop-stmt
invariant-block_left-loop-stmt l = StmtsSoFar (left (set_holds l.sites.keys)) l.initial.left l.left
    (take l.stmt-index l.stmt-items)
