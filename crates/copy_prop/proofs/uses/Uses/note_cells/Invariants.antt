use Rattle.std.proofs.Common.{◌≡◌, ◌++◌, take}
use Rattle.copy_prop.specs.Lean.{used_in_cells}
use Rattle.copy_prop.proofs.uses.Uses.note_cells.Given as goal

abbrev pub invariant-loop-cell : goal.invariant-loop-cell
invariant-loop-cell l = l.self ≡ l.initial.self ++ used_in_cells (take l.cell-index l.cells)
