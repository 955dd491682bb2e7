use Rattle.pass_cells.specs.Entries.{unshown_by_set}
use Rattle.pass_cells.proofs.Listed.{store_none, store_next, store_all}
use Rattle.pass_cells.proofs.memory.store.Goals as goal

pub loop-cell-init : goal.loop-cell-init
loop-cell-init c = store_none (unshown_by_set c.args.shown.now.keys) c.args.entries.now

pub loop-cell-preserved : goal.loop-cell-preserved
loop-cell-preserved c = store_next (unshown_by_set c.args.shown.now.keys) _ _ _ _ _ _
    c.loop-cell-test.true c.cell-item.is c.in_ok-store_cell.ensures.is
    c.in_ok-store_cell.ensures.more c.loop-cell.invariant

pub returns-clause-is : goal.returns-clause-is
returns-clause-is c =
    (store_all (unshown_by_set c.args.shown.now.keys) _ _ _ _ c.loop-cell-test.false
    c.loop-cell.invariant).is

pub returns-clause-more : goal.returns-clause-more
returns-clause-more c =
    (store_all (unshown_by_set c.args.shown.now.keys) _ _ _ _ c.loop-cell-test.false
    c.loop-cell.invariant).more
