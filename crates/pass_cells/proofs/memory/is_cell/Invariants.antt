use Rattle.std.proofs.Common.{◌≡◌, take}
use Rattle.pass_cells.specs.Entries.{memories, is_cell}
use Rattle.pass_cells.proofs.memory.is_cell.Given as goal

abbrev pub invariant-loop-entry : goal.invariant-loop-entry
invariant-loop-entry l = l.found ≡ is_cell (memories (take l.entry-index l.entries) l.x.0)
