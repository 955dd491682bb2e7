use Rattle.std.proofs.Common.{◌≡◌, ◌++◌, take}
use Rattle.fetch_passes.specs.Notes.{cells_used}
use Rattle.fetch_passes.proofs.scan.Scan.cells.Given as goal

abbrev pub invariant-loop-cell : goal.invariant-loop-cell
invariant-loop-cell l = record {
  used : l.self.used.items ≡ l.fn.self.used.items ++ cells_used (take l.cell-index l.cells);
  sizes : l.self.sizes.items ≡ l.fn.self.sizes.items;
}
