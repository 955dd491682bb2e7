use Rattle.std.proofs.Common.{rules}
use Rattle.flow_listing.specs.Text.{local_cell}
use Rattle.flow_listing.proofs.Numbered.{flat_done, flat_more}
use Rattle.flow_listing.proofs.names.note_cells.Goals as goal

pub returns : goal.returns
returns c = flat_done (λ k b. local_cell c.args.proc k b.site) _ _ _ _ c.loop-binder-test.false
    c.loop-binder.invariant.so_far

pub loop-binder-preserved : goal.loop-binder-preserved
loop-binder-preserved c = record {
  counted = search rules;
  so_far = flat_more (λ k b. local_cell c.args.proc k b.site) c.args.binders.now
      c.loop-binder.binder-index _ _ _ _ _ c.loop-binder-test.true c.loop-binder.invariant.counted
      c.loop-binder.invariant.so_far c.in_ok-note_cell.ensures;
}
