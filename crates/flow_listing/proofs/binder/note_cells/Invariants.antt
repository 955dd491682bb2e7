use Rattle.std.proofs.Common.{◌≡◌, ◌++◌, take}
use Rattle.flow_listing.specs.Binders.{cell_binders}
use Rattle.flow_listing.proofs.binder.note_cells.Given as goal

abbrev pub invariant-loop-cell : goal.invariant-loop-cell
invariant-loop-cell l = l.out ≡ l.initial.out ++ cell_binders (take l.cell-index l.cells)
