use Rattle.dead_store.specs.Holding.{set_holds}
use Rattle.dead_store.proofs.Rewriting.{one_more_cell}
use Rattle.dead_store.proofs.blocks.DeadCellRemover.cells.Goals as goal

pub loop-cell-preserved : goal.loop-cell-preserved
loop-cell-preserved c = one_more_cell (set_holds c.args.self.now.sites.now.keys)
    (set_holds c.args.self.now.gone.now.keys) _ _ _ _ c.loop-cell.invariant c.in_ok-put_cell.ensures
