use Rattle.std.proofs.Common.{◌≡◌, take}
use Rattle.std.specs.List.{flat_map, list_any}
use Rattle.flow_system.specs.Shown.{tables_of}
use Rattle.points_to.specs.Bits.{block_words}
use Rattle.points_to.specs.ValueWords.{has_field, has_fewer}
use Rattle.points_to.proofs.value_word.note_blocks.Given as goal

abbrev pub invariant-loop-block : goal.invariant-loop-block
invariant-loop-block l = record {
  has : l.seen.has ≡ list_any (has_field (tables_of l.system) l.width l.j)
      (flat_map block_words (take l.block-index l.blocks));
  fewer : l.seen.fewer ≡ list_any (has_fewer (tables_of l.system) l.width l.j)
      (flat_map block_words (take l.block-index l.blocks));
}
