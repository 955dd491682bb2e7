use Rattle.std.proofs.Common.{◌≡◌, take}
use Rattle.pass_known.specs.Telling.{known_solution}
use Rattle.case_simplify.specs.Known.{facts_of}
use Rattle.pass_known.specs.Told.{known_words}
use Rattle.pass_known.proofs.told.Told.words.Given as goal

abbrev pub invariant-words : goal.invariant-words
invariant-words l = l.made ≡ known_words l.self.count (known_solution l.self) (facts_of l.facts)
    (take l.word-index l.words)
