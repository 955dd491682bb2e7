use Rattle.std.proofs.Common.{◌≡◌, ◌++◌, take}
use Rattle.copy_prop.specs.Lean.{used_in_words}
use Rattle.copy_prop.proofs.uses.Uses.note_words.Given as goal

abbrev pub invariant-loop-word : goal.invariant-loop-word
invariant-loop-word l = l.self ≡ l.initial.self ++ used_in_words (take l.word-index l.words)
