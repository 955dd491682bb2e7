use Rattle.std.proofs.Common.{◌≡◌, ◌||◌, map, length}
use Rattle.std.specs.List.{list_any}
use Rattle.flow_system.specs.Shown.{tables_of}
use Rattle.points_to.specs.Bits.{word_of, block_words}
use Rattle.points_to.specs.ValueWords.{has_field, has_fewer}
use Rattle.points_to.proofs.value_word.note_block.Given as goal

abbrev pub invariant-words : goal.invariant-words
invariant-words l = record {
  has : (l.noted.has || list_any (has_field (tables_of l.system) l.width l.j) (map word_of l.left))
      ≡ (l.fn.seen.has || list_any (has_field (tables_of l.system) l.width l.j)
      (block_words l.fn.block));
  fewer : (l.noted.fewer || list_any (has_fewer (tables_of l.system) l.width l.j)
      (map word_of l.left)) ≡
      (l.fn.seen.fewer || list_any (has_fewer (tables_of l.system) l.width l.j)
      (block_words l.fn.block));
}

abbrev pub decreases-words : goal.decreases-words
decreases-words l = length l.left
