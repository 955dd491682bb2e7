use Rattle.std.proofs.Common.{◌≡◌, ◌++◌, take}
use Rattle.std.specs.List.{flat_map}
use Rattle.points_to.specs.Bits.{block_numbers}
use Rattle.points_to.proofs.stored.list_numbers.Given as goal

abbrev pub invariant-loop-block : goal.invariant-loop-block
invariant-loop-block l = l.out ≡ l.initial.out ++ flat_map block_numbers
    (take l.block-index l.blocks)
