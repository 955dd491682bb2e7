use Rattle.std.proofs.Common.{sym}
use Rattle.std.proofs.lemmas.List.{append-nil}
use Rattle.pass_cells.proofs.Listed.{cells_next, cells_done}
use Rattle.pass_cells.proofs.shown.cells_shown.Goals as goal

pub loop-cell-init : goal.loop-cell-init
loop-cell-init c = sym (append-nil c.args.words.now)

pub loop-cell-preserved : goal.loop-cell-preserved
loop-cell-preserved c = cells_next _ _ _ _ _ _ c.loop-cell-test.true c.cell-item.is
    c.loop-cell.invariant c.in_ok-val_shown.ensures

pub returns : goal.returns
returns c = cells_done _ _ _ _ c.loop-cell-test.false c.loop-cell.invariant
