use Rattle.std.proofs.Common.{◌≡◌, ◌++◌, take}
use Rattle.grin_syntax.specs.Formed.{AllOf}
use Rattle.low_translate.specs.Translation.{operands_of_words}
use Rattle.low_translate.specs.Lowered.{WordRanged}
use Rattle.low_translate.proofs.words.add_operands.Given as goal

abbrev pub invariant-loop-word : goal.invariant-loop-word
invariant-loop-word l = record {
  is : l.made ≡ l.initial.made ++ operands_of_words (take l.word-index l.words);
  ranged : AllOf WordRanged (take l.word-index l.words);
}
