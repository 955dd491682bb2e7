use Rattle.std.proofs.Common.{sym, subst}
use Rattle.flow_system.specs.Shown.{tables_of}
use Rattle.flow_system.specs.declared.fact.Place.TheVariants.{Var}
use Rattle.flow_system.specs.declared.fact.Part.TheVariants.{Word}
use Rattle.points_to.specs.Asked.{facts_at}
use Rattle.points_to.specs.Held.{in_part, elements}
use Rattle.points_to.specs.Known.{held}
use Rattle.points_to.specs.Rounds.{AllFactsKnown}
use Rattle.points_to.proofs.Direct.{picked_same}
use Rattle.points_to.proofs.satisfied.word_stands_at.Goals as goal

pub returns : goal.returns
returns c = λ t.
    let p = tables_of c.args.system.now in
    let H = held c.args.facts.now in
    subst (λ us. AllFactsKnown H (facts_at (Var c.args.x.0) (in_part (Word 0) us)))
    (sym (picked_same 0 (elements p H c.args.w))) (c.stands_at.ensures t)
