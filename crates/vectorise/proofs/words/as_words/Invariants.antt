use Rattle.std.proofs.Common.{◌≡◌, take}
use Rattle.vectorise.specs.Known.{as_words}
use Rattle.vectorise.proofs.words.as_words.Given as goal

abbrev pub invariant-loop-word : goal.invariant-loop-word
invariant-loop-word l = l.made ≡ as_words l.known (take l.word-index l.words)
