use Rattle.std.proofs.Common.{◌≡◌, take}
use Rattle.grin_syntax.specs.Binders.{cell_vars}
use Rattle.low_translate.proofs.emit.variables.Given as goal

abbrev pub invariant-loop-cell : goal.invariant-loop-cell
invariant-loop-cell l = l.made ≡ cell_vars (take l.cell-index l.cells)
