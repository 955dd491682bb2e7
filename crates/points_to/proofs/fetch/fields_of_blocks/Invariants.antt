use Rattle.std.proofs.Common.{◌≡◌, ◌++◌, take}
use Rattle.std.specs.List.{flat_map}
use Rattle.flow_system.specs.Shown.{tables_of}
use Rattle.points_to.specs.Held.{field_of_tag}
use Rattle.points_to.specs.Bits.{block_words}
use Rattle.points_to.proofs.fetch.fields_of_blocks.Given as goal

abbrev pub invariant-loop-block : goal.invariant-loop-block
invariant-loop-block l = l.out ≡ l.initial.out ++ flat_map
    (λ b. flat_map (field_of_tag (tables_of l.system) l.i l.items) (block_words b))
    (take l.block-index l.blocks)
