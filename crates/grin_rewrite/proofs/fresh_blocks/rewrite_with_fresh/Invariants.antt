use Rattle.grin_rewrite.proofs.CountedLoops.{ProcsSoFar}
use Rattle.grin_rewrite.proofs.fresh_blocks.rewrite_with_fresh.Given as goal

abbrev pub invariant-loop-proc : goal.invariant-loop-proc
invariant-loop-proc g l = ProcsSoFar (g.R.FreshRule.rule l.rule) l.initial.fresh.next l.fresh.next
    l.made l.yielded
