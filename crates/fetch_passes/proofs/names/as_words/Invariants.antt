use Rattle.std.proofs.Common.{◌≡◌, take}
use Rattle.fetch_passes.specs.Names.{as_words}
use Rattle.fetch_passes.proofs.names.as_words.Given as goal

abbrev pub invariant-loop-word : goal.invariant-loop-word
invariant-loop-word l = l.made ≡ as_words l.names (take l.word-index l.words)
