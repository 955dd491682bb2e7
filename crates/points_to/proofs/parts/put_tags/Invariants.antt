use Rattle.std.proofs.Common.{◌≡◌, ◌++◌, take}
use Rattle.std.specs.List.{flat_map}
use Rattle.points_to.specs.PartWords.{tag_of_words}
use Rattle.points_to.specs.Stored.{tables_in}
use Rattle.points_to.proofs.parts.put_tags.Given as goal

abbrev pub invariant-loop-word : goal.invariant-loop-word
invariant-loop-word l = l.out ≡ l.initial.out ++ flat_map
    (tag_of_words (tables_in l.origin) l.width) (take l.word-index l.words)
