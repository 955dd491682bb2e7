use Rattle.std.proofs.Common.{take}
use Rattle.pass_cells.specs.Entries.{unshown_by_set}
use Rattle.pass_cells.proofs.Listed.{StoreSoFar}
use Rattle.pass_cells.proofs.memory.store.Given as goal

abbrev pub invariant-loop-cell : goal.invariant-loop-cell
invariant-loop-cell l = StoreSoFar (unshown_by_set l.shown.keys) l.initial.entries l.entries
    (take l.cell-index l.cells)
