use Rattle.std.proofs.Common.{rules}
use Rattle.grin_syntax.proofs.Past.{past_cells_next}
use Rattle.grin_syntax.proofs.fresh.past_cells.Goals as goal

pub loop-cell-preserved : goal.loop-cell-preserved
loop-cell-preserved c = past_cells_next c.args.cells.now c.loop-cell.cell-index c.cell-item.result _
    _ c.loop-cell-test.true c.cell-item.is (search rules) c.loop-cell.invariant
