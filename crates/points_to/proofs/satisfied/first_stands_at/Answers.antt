use Rattle.std.proofs.Common.{refl, sym, ◌∙◌, subst}
use Rattle.flow_system.specs.Shown.{tables_of}
use Rattle.flow_system.specs.declared.fact.Place.TheVariants.{Var}
use Rattle.flow_system.specs.declared.fact.Part.TheVariants.{Word}
use Rattle.points_to.specs.Asked.{facts_at}
use Rattle.points_to.specs.Held.{in_part}
use Rattle.points_to.specs.Known.{held}
use Rattle.points_to.specs.Rounds.{AllFactsKnown}
use Rattle.points_to.proofs.Direct.{word_of_vector, picked_numbered}
use Rattle.points_to.proofs.satisfied.first_stands_at.Goals as goal

pub returns : goal.returns
returns c = λ t.
    let p = tables_of c.args.system.now in
    let H = held c.args.facts.now in
    let ws = c.args.words.now in
    subst (λ us. AllFactsKnown H (facts_at (Var c.args.x.0) (in_part (Word 0) us)))
    (word_of_vector p H 0 ws ∙ sym (picked_numbered p H ws 0 0 0 refl))
    (c.nth_stands_at.ensures t)
