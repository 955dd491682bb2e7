use Rattle.dead_store.proofs.Collected.{reads_next}
use Rattle.dead_store.proofs.reads.words_read.Goals as goal

pub loop-proc-preserved : goal.loop-proc-preserved
loop-proc-preserved c = reads_next c.args.updates_count _ _ _ _ _ c.loop-proc-test.true
    c.proc-item.is c.in_ok-block_reads.ensures c.loop-proc.invariant
