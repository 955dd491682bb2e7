use Rattle.std.proofs.Common.{◌≡◌, ◌++◌, take}
use Rattle.std.specs.List.{flat_map}
use Rattle.flow_system.specs.Shown.{tables_of, inclusions_of}
use Rattle.points_to.specs.Bits.{block_numbers}
use Rattle.points_to.specs.Known.{held}
use Rattle.points_to.specs.Stored.{values_in}
use Rattle.points_to.specs.ValueWords.{words_of_values}
use Rattle.points_to.proofs.stored_tags.words_of_values.Given as goal

abbrev pub invariant-loop-block : goal.invariant-loop-block
invariant-loop-block l =
    l.out ≡ l.initial.out ++ flat_map
    (λ b. words_of_values (tables_of l.system) (values_in (inclusions_of l.system))
    (held l.facts) l.i (block_numbers b)) (take l.block-index l.blocks)
