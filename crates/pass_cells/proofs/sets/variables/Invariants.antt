use Rattle.std.proofs.Common.{take}
use Rattle.pass_cells.proofs.Having.{HasThose}
use Rattle.pass_cells.proofs.sets.variables.Given as goal

abbrev pub invariant-loop-word : goal.invariant-loop-word
invariant-loop-word l = HasThose l.set.keys (take l.word-index l.words)
