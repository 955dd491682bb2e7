use Rattle.vectorise.proofs.Loops.{procs_next}
use Rattle.vectorise.proofs.known.table.Goals as goal

pub loop-proc-preserved : goal.loop-proc-preserved
loop-proc-preserved c = procs_next _ _ c.loop-proc.proc-index c.proc-item.result _ _ _
    c.loop-proc-test.true c.proc-item.is c.in_ok-note_block.ensures c.loop-proc.invariant
