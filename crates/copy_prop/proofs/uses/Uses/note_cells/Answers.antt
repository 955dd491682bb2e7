use Rattle.copy_prop.proofs.Used.{cells_next}
use Rattle.copy_prop.proofs.uses.Uses.note_cells.Goals as goal

pub loop-cell-preserved : goal.loop-cell-preserved
loop-cell-preserved c = cells_next _ _ _ _ _ _ _ c.loop-cell-test.true c.cell-item.is
    c.loop-cell.invariant c.in_ok-note_val.ensures
