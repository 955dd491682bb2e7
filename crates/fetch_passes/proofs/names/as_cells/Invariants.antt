use Rattle.std.proofs.Common.{◌≡◌, take}
use Rattle.fetch_passes.specs.Names.{as_cells}
use Rattle.fetch_passes.proofs.names.as_cells.Given as goal

abbrev pub invariant-loop-cell : goal.invariant-loop-cell
invariant-loop-cell l = l.made ≡ as_cells l.names (take l.cell-index l.cells)
