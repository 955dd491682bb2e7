use Rattle.std.proofs.Common.{◌≡◌, ◌++◌, take}
use Rattle.std.specs.List.{flat_map}
use Rattle.points_to.specs.Bits.{block_words}
use Rattle.points_to.specs.Held.{in_part}
use Rattle.points_to.proofs.nodes.in_part.Given as goal

abbrev pub invariant-loop-block : goal.invariant-loop-block
invariant-loop-block l = l.out ≡ l.initial.out ++ flat_map (λ b. in_part l.part (block_words b))
    (take l.block-index l.block-items)
