use Rattle.std.proofs.Common.{take}
use Rattle.std.specs.List.{flat_map}
use Rattle.flow_system.specs.declared.fact.Element.{Element}
use Rattle.points_to.specs.Bits.{block_words}
use Rattle.points_to.specs.Held.{In}
use Rattle.points_to.proofs.bits.are_within.Given as goal

abbrev pub invariant-loop-block : goal.invariant-loop-block
invariant-loop-block l = (u : Element) → In u (flat_map block_words (take l.block-index l.blocks))
    → In u (flat_map block_words l.others)
