use Rattle.std.proofs.Common.{rules}
use Rattle.grin_syntax.proofs.Past.{past_procs_next}
use Rattle.grin_syntax.proofs.fresh.Fresh.past.Goals as goal

pub loop-proc-preserved : goal.loop-proc-preserved
loop-proc-preserved c =
    past_procs_next c.args.procs.now c.loop-proc.proc-index c.proc-item.result _ _ _ _ _
    c.loop-proc-test.true c.proc-item.is (search rules) c.past_block.ensures c.max-past.ensures
    c.max-next.ensures c.loop-proc.invariant
