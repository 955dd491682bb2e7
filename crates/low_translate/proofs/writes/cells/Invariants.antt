use Rattle.std.proofs.Common.{◌≡◌, drop, max}
use Rattle.low_translate.specs.Writes.{cells_write}
use Rattle.low_translate.proofs.writes.cells.Given as goal

abbrev pub invariant-loop-cell : goal.invariant-loop-cell
invariant-loop-cell l = max l.most (cells_write l.tags (drop l.cell-index l.cells)) ≡ cells_write
    l.tags l.cells
