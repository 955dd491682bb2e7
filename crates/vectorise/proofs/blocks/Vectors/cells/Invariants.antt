use Rattle.std.proofs.Common.{◌≡◌}
use Rattle.vectorise.specs.Vectors.{wide_cells}
use Rattle.vectorise.proofs.blocks.Vectors.cells.Given as goal

abbrev pub invariant-loop-cell : goal.invariant-loop-cell
invariant-loop-cell l = l.made ≡ wide_cells l.self.layout l.self.known l.yielded
