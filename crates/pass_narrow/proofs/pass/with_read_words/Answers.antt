use Rattle.pass_narrow.proofs.Backward.{one_more_procedure}
use Rattle.pass_narrow.proofs.pass.with_read_words.Goals as goal

pub loop-proc-preserved : goal.loop-proc-preserved
loop-proc-preserved c = rw c.in_ok-push.ensures.ok
    (one_more_procedure _ _ _ _ _ c.in-Some.proc c.in_ok-body.body c.in_ok-body.ensures.tree
    c.loop-proc.invariant)
