use Rattle.std.proofs.Common.{drop}
use Rattle.flow_system.specs.Shown.{tables_of}
use Rattle.flow_system.specs.declared.fact.Part.TheVariants.{Word}
use Rattle.points_to.specs.Asked.{vector_facts}
use Rattle.points_to.specs.Held.{numbered}
use Rattle.points_to.specs.Known.{held}
use Rattle.points_to.specs.Rounds.{AllFactsKnown}
use Rattle.points_to.proofs.satisfied.stand_at_vector.Given as goal

abbrev pub invariant-loop-x : goal.invariant-loop-x
invariant-loop-x l =
    let p = tables_of l.system in
    let H = held l.facts in
    let X = numbered p H Word 0 l.words in
    AllFactsKnown H (vector_facts p X l.j (drop l.x-index l.xs))
    → AllFactsKnown H (vector_facts p X 0 l.xs)
