use Rattle.std.proofs.Common.{◌≡◌, take}
use Rattle.pass_cells.specs.Memory.{told}
use Rattle.pass_cells.specs.Entries.{memories}
use Rattle.pass_cells.proofs.memory.word_of.Given as goal

abbrev pub invariant-loop-entry : goal.invariant-loop-entry
invariant-loop-entry l = l.word ≡ told (memories (take l.entry-index l.entries) l.x.0) l.i
