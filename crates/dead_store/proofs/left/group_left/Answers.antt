use Rattle.std.proofs.Common.{sym}
use Rattle.std.proofs.lemmas.List.{append-nil}
use Rattle.dead_store.specs.Holding.{set_holds}
use Rattle.dead_store.proofs.Collected.{cells_next, cells_done}
use Rattle.dead_store.proofs.left.group_left.Goals as goal

pub loop-cell-init : goal.loop-cell-init
loop-cell-init c = sym (append-nil c.args.left.now)

pub loop-cell-preserved : goal.loop-cell-preserved
loop-cell-preserved c = cells_next (set_holds c.args.sites.now.keys) _ _ _ _ _ _
    c.loop-cell-test.true c.cell-item.is c.loop-cell.invariant c.in_ok-cell_left.ensures

pub returns : goal.returns
returns c = cells_done (set_holds c.args.sites.now.keys) _ _ _ _ c.loop-cell-test.false
    c.loop-cell.invariant
