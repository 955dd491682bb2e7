use Rattle.std.proofs.Common.{drop}
use Rattle.flow_system.specs.Shown.{tables_of}
use Rattle.flow_system.specs.declared.fact.Place.TheVariants.{Result}
use Rattle.flow_system.specs.declared.fact.Part.TheVariants.{Word}
use Rattle.points_to.specs.Known.{held}
use Rattle.points_to.specs.Rounds.{AllFactsKnown}
use Rattle.points_to.proofs.HeldFacts.{numbered_facts}
use Rattle.points_to.proofs.satisfied.stand_at_result.Given as goal

abbrev pub invariant-loop-w : goal.invariant-loop-w
invariant-loop-w l =
    let H = held l.facts in
    let at = numbered_facts (tables_of l.system) H (Result l.f) Word in
    AllFactsKnown H (at l.j (drop l.w-index l.words)) → AllFactsKnown H (at 0 l.words)
