use Rattle.grin_rewrite.proofs.CountedLoops.{StmtsSoFar, ArmsSoFar}
use Rattle.grin_rewrite.proofs.fresh_blocks.+walk.Given as goal

abbrev pub invariant-block-loop-stmt : goal.invariant-block-loop-stmt
invariant-block-loop-stmt g l = StmtsSoFar (g.R.FreshRule.rule l.rule) l.initial.fresh.next
    l.fresh.next l.stmts l.yielded

abbrev pub invariant-alternatives-loop-alt : goal.invariant-alternatives-loop-alt
invariant-alternatives-loop-alt g l = ArmsSoFar (g.R.FreshRule.rule l.rule) l.initial.fresh.next
    l.fresh.next l.made l.yielded
