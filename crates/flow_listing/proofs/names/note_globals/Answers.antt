use Rattle.std.proofs.Common.{rules}
use Rattle.flow_listing.specs.Text.{global_cell}
use Rattle.flow_listing.proofs.Numbered.{flat_done, flat_next}
use Rattle.flow_listing.proofs.names.note_globals.Goals as goal

pub returns : goal.returns
returns c = flat_done global_cell _ _ _ _ c.loop-cell-test.false c.loop-cell.invariant.so_far

pub loop-cell-preserved : goal.loop-cell-preserved
loop-cell-preserved c = record {
  counted = search rules;
  so_far = flat_next global_cell c.args.globals.now c.loop-cell.cell-index _ _ _ _ _
      c.loop-cell-test.true c.cell-item.is c.loop-cell.invariant.counted
      c.loop-cell.invariant.so_far c.in_ok-note_global.ensures;
}
