use Rattle.std.proofs.Common.{◌≡◌, take}
use Rattle.grin_rewrite.specs.ByWords.{words_by}
use Rattle.grin_rewrite.specs.Table.{facts_of}
use Rattle.copy_prop.specs.Resolved.{as_word}
use Rattle.copy_prop.proofs.resolve.words.Given as goal

abbrev pub invariant-items : goal.invariant-items
invariant-items l = l.made ≡ words_by (as_word (facts_of l.standing)) (take l.item-index l.items)
