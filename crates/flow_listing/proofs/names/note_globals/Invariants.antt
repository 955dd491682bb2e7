use Rattle.std.proofs.Common.{◌≡◌, ◌++◌, take}
use Rattle.flow_listing.specs.Ascending.{flat_map_indexed}
use Rattle.flow_listing.specs.Text.{global_cell}
use Rattle.flow_listing.proofs.names.note_globals.Given as goal

abbrev pub invariant-loop-cell : goal.invariant-loop-cell
invariant-loop-cell l = record {
  counted : l.at ≡ l.cell-index;
  so_far : l.out ≡ l.initial.out
      ++ flat_map_indexed global_cell 0 (take l.cell-index l.globals);
}
