use Rattle.std.proofs.Common.{◌≡◌, ◌++◌, take}
use Rattle.flow_listing.specs.Ascending.{flat_map_indexed}
use Rattle.flow_listing.specs.Text.{local_cell}
use Rattle.flow_listing.proofs.names.note_cells.Given as goal

abbrev pub invariant-loop-binder : goal.invariant-loop-binder
invariant-loop-binder l = record {
  counted : l.at ≡ l.binder-index;
  so_far : l.out ≡ l.initial.out
      ++ flat_map_indexed (λ k b. local_cell l.proc k b.site) 0 (take l.binder-index l.binders);
}
