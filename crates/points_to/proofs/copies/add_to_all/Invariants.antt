use Rattle.std.proofs.Common.{take}
use Rattle.std.specs.List.{flat_map}
use Rattle.points_to.specs.Bits.{block_words}
use Rattle.points_to.specs.Copies.{facts_to}
use Rattle.points_to.specs.Known.{held, GrowsByFacts}
use Rattle.points_to.proofs.copies.add_to_all.Given as goal

abbrev pub invariant-loop-x : goal.invariant-loop-x
invariant-loop-x l = GrowsByFacts (held l.initial.facts) (held l.facts)
    (facts_to (take l.x-index l.targets) (flat_map block_words l.words))
