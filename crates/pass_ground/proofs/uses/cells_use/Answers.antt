use Rattle.pass_ground.proofs.Mentions.{cells_next}
use Rattle.pass_ground.proofs.uses.cells_use.Goals as goal

pub loop-cell-preserved : goal.loop-cell-preserved
loop-cell-preserved c = cells_next c.args.x.0 c.args.cells.now c.loop-cell.cell-index
    c.cell-item.result _ _ _ c.loop-cell-test.true c.cell-item.is c.val_uses.ensures
    c.either-used.ensures c.loop-cell.invariant
