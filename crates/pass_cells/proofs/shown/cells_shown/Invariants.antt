use Rattle.std.proofs.Common.{◌≡◌, ◌++◌, take}
use Rattle.pass_cells.specs.Shown.{cells_words}
use Rattle.pass_cells.proofs.shown.cells_shown.Given as goal

abbrev pub invariant-loop-cell : goal.invariant-loop-cell
invariant-loop-cell l = l.words ≡ l.initial.words ++ cells_words (take l.cell-index l.cells)
