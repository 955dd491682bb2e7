use Rattle.std.proofs.Common.{take}
use Rattle.pass_cells.proofs.Listed.{ForgetSoFar}
use Rattle.pass_cells.proofs.memory.forget.Given as goal

abbrev pub invariant-loop-word : goal.invariant-loop-word
invariant-loop-word l = ForgetSoFar l.initial.entries l.entries (take l.word-index l.words)
