use Rattle.std.proofs.Common.{◌≡◌, ◌++◌, map, length}
use Rattle.std.specs.List.{flat_map}
use Rattle.flow_system.specs.Shown.{tables_of}
use Rattle.points_to.specs.Held.{field_of_tag}
use Rattle.points_to.specs.Bits.{word_of, block_words}
use Rattle.points_to.proofs.fetch.fields_of_block.Given as goal

abbrev pub invariant-words : goal.invariant-words
invariant-words l = l.out ++ flat_map (field_of_tag (tables_of l.system) l.i l.items)
    (map word_of l.left) ≡ l.initial.out ++ flat_map (field_of_tag (tables_of l.system) l.i l.items)
    (block_words l.fn.block)

abbrev pub decreases-words : goal.decreases-words
decreases-words l = length l.left
