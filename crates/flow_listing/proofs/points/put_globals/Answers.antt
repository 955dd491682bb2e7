use Rattle.std.specs.Ordering.{nat_cmp}
use Rattle.std.specs.BTreeMap as tree
use Rattle.grin_syntax.specs.Tree.{program_of}
use Rattle.points_to.specs.Found.{found}
use Rattle.flow_listing.specs.Text.{global_line}
use Rattle.flow_listing.proofs.Numbered.{mapped_next}
use Rattle.flow_listing.proofs.points.put_globals.Goals as goal

pub loop-cell-preserved : goal.loop-cell-preserved
loop-cell-preserved c = mapped_next
    (global_line (program_of c.args.g.now) (tree.get nat_cmp c.args.names.now)
    (found c.args.flow.now)) c.as_slice-cell-items.result.now c.loop-cell.cell-index _ _ _ _
    c.loop-cell-test.true c.cell-item.is c.loop-cell.invariant c.in_ok-put_global.ensures
