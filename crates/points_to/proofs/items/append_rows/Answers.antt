use Rattle.points_to.specs.Rows.{row_items}
use Rattle.points_to.proofs.Loops.{flat_next_is, flat_done}
use Rattle.points_to.proofs.items.append_rows.Goals as goal

pub loop-row-preserved : goal.loop-row-preserved
loop-row-preserved c = flat_next_is row_items c.args.rows.now _ _ _ _ _ c.loop-row-test.true
    c.row-item.is c.loop-row.invariant c.in_ok-append_row.ensures

pub returns : goal.returns
returns c = flat_done row_items _ _ _ _ c.loop-row-test.false c.loop-row.invariant
