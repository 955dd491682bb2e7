use Rattle.std.proofs.Common.{◌≡◌, ◌++◌, take}
use Rattle.std.specs.List.{flat_map}
use Rattle.flow_system.specs.declared.fact.Part.TheVariants.{Word}
use Rattle.points_to.specs.Bits.{block_words}
use Rattle.points_to.specs.Held.{in_part}
use Rattle.points_to.proofs.vectors.words_met.Given as goal

abbrev pub invariant-loop-block : goal.invariant-loop-block
invariant-loop-block l = l.items ≡ l.initial.items ++ flat_map
    (λ b. in_part (Word 0) (block_words b)) (take l.block-index l.block-items)
