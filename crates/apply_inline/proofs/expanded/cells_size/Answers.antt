use Rattle.std.proofs.Common.{arith}
use Rattle.apply_inline.proofs.Sums.{cells_next, cells_done}
use Rattle.apply_inline.proofs.expanded.cells_size.Goals as goal

pub loop-cell-preserved : goal.loop-cell-preserved
loop-cell-preserved c = let e = cells_next c.args.cells.now c.loop-cell.cell-index _
    c.loop-cell-test.true c.cell-item.is in omega arith

pub returns : goal.returns
returns c = let e = cells_done c.args.cells.now c.loop-cell.cell-index c.loop-cell-test.false
    in omega arith
