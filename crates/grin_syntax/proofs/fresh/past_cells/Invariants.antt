use Rattle.std.proofs.Common.{◌≡◌, take}
use Rattle.grin_syntax.specs.Fresh.{past_cells}
use Rattle.grin_syntax.proofs.fresh.past_cells.Given as goal

abbrev pub invariant-loop-cell : goal.invariant-loop-cell
invariant-loop-cell l = l.past ≡ past_cells (take l.cell-index l.cells)
