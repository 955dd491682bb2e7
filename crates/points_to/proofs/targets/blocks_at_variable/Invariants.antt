use Rattle.std.proofs.Common.{◌≡◌, ◌++◌, take}
use Rattle.std.specs.List.{flat_map}
use Rattle.flow_system.specs.declared.fact.Place.TheVariants.{Var}
use Rattle.flow_system.specs.declared.fact.Part.TheVariants.{Word}
use Rattle.points_to.specs.Asked.{facts_at}
use Rattle.points_to.specs.Bits.{block_words}
use Rattle.points_to.specs.Held.{in_part}
use Rattle.points_to.proofs.targets.blocks_at_variable.Given as goal

abbrev pub invariant-loop-block : goal.invariant-loop-block
invariant-loop-block l = l.out ≡ l.initial.out ++ flat_map
    (λ b. facts_at (Var l.x.0) (in_part (Word 0) (block_words b))) (take l.block-index l.blocks)
