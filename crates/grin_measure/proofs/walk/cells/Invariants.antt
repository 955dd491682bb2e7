use Rattle.std.proofs.Common.{◌≡◌, take}
use Rattle.grin_measure.specs.Counts.{of_cells}
use Rattle.grin_measure.proofs.walk.cells.Given as goal

abbrev pub invariant-loop-each : goal.invariant-loop-each
invariant-loop-each l = l.counts ≡ of_cells (take l.each-index l.cells)
