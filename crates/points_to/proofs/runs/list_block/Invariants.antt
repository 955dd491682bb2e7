use Rattle.std.proofs.Common.{◌≡◌, ◌++◌, map, length}
use Rattle.points_to.specs.Bits.{word_of, block_words}
use Rattle.points_to.proofs.runs.list_block.Given as goal

abbrev pub invariant-words : goal.invariant-words
invariant-words l = l.out ++ map word_of l.left ≡ l.initial.out ++ block_words l.fn.block

abbrev pub decreases-words : goal.decreases-words
decreases-words l = length l.left
