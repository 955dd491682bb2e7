use Rattle.std.proofs.Common.{◌≡◌, ◌++◌, map, length}
use Rattle.std.specs.List.{flat_map}
use Rattle.points_to.specs.Bits.{word_of, block_words}
use Rattle.points_to.specs.Wanted.{tag_in}
use Rattle.points_to.proofs.tables.put_tags.Given as goal

abbrev pub invariant-words : goal.invariant-words
invariant-words l = l.out ++ flat_map tag_in (map word_of l.left) ≡ l.initial.out
    ++ flat_map tag_in (block_words l.fn.block)

abbrev pub decreases-words : goal.decreases-words
decreases-words l = length l.left
