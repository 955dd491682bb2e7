use Rattle.std.proofs.Common.{◌≡◌, ◌++◌, take}
use Rattle.grin_syntax.specs.Binders.{cell_vars}
use Rattle.grin_syntax.proofs.ranks.note_cells.Given as goal

abbrev pub invariant-loop-cell : goal.invariant-loop-cell
invariant-loop-cell l = l.out ≡ l.initial.out ++ cell_vars (take l.cell-index l.cells)
