use Rattle.std.proofs.Common.{◌≡◌, ◌++◌, take}
use Rattle.std.specs.List.{flat_map}
use Rattle.points_to.specs.Bits.{block_numbers}
use Rattle.points_to.specs.Known.{held}
use Rattle.points_to.specs.PartWords.{part_of_values}
use Rattle.points_to.specs.Stored.{tables_in}
use Rattle.points_to.proofs.parts.put_blocks.Given as goal

abbrev pub invariant-loop-block : goal.invariant-loop-block
invariant-loop-block l =
    l.out ≡ l.initial.out ++ flat_map
    (λ b. part_of_values (tables_in l.origin) l.origin.values (held l.facts) l.part
    (block_numbers b)) (take l.block-index l.blocks)
