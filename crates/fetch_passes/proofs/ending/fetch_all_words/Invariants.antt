use Rattle.std.proofs.Common.{take}
use Rattle.fetch_passes.proofs.Ends.{AllWords}
use Rattle.fetch_passes.proofs.ending.fetch_all_words.Given as goal

abbrev pub invariant-loop-at : goal.invariant-loop-at
invariant-loop-at l = AllWords l.cell (take l.at l.vars) l.initial.made l.made
