use Rattle.std.proofs.Common.{◌≡◌, ◌++◌, map, length}
use Rattle.std.specs.List.{flat_map}
use Rattle.flow_system.specs.Shown.{tables_of}
use Rattle.points_to.specs.Held.{done_tag}
use Rattle.points_to.specs.Bits.{word_of, block_words}
use Rattle.points_to.proofs.nodes.push_done_tags.Given as goal

abbrev pub invariant-words : goal.invariant-words
invariant-words l = l.out ++ flat_map (done_tag (tables_of l.system)) (map word_of l.left) ≡
    l.initial.out ++ flat_map (done_tag (tables_of l.system)) (block_words l.fn.block)

abbrev pub decreases-words : goal.decreases-words
decreases-words l = length l.left
