use Rattle.dead_store.specs.Holding.{set_holds}
use Rattle.dead_store.proofs.Collected.{left_next}
use Rattle.dead_store.proofs.left.procs_left.Goals as goal

pub loop-proc-preserved : goal.loop-proc-preserved
loop-proc-preserved c = left_next (set_holds c.args.sites.now.keys) _ _ _ _ _ c.loop-proc-test.true
    c.proc-item.is c.in_ok-block_left.ensures c.loop-proc.invariant
