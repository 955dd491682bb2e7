use Rattle.std.proofs.Common.{length, sym, ap, refl, ◌∙◌, subst}
use Rattle.std.proofs.lemmas.Option.{slice_get_read, slice_get_past}
use Rattle.flow_system.specs.Shown.{tables_of}
use Rattle.flow_system.specs.declared.fact.Place.TheVariants.{Var}
use Rattle.flow_system.specs.declared.fact.Part.TheVariants.{Word}
use Rattle.points_to.specs.Asked.{facts_at}
use Rattle.points_to.specs.Held.{in_part}
use Rattle.points_to.specs.Known.{held}
use Rattle.points_to.specs.Rounds.{AllFactsKnown}
use Rattle.points_to.proofs.Direct.{elements_if, word_of_vector}
use Rattle.seq.proofs.Member.{none_in}
use Rattle.points_to.proofs.satisfied.nth_stands_at.Goals as goal

pub returns-in-Some : goal.returns-in-Some
returns-in-Some c = λ t.
    let p = tables_of c.args.system.now in
    let H = held c.args.facts.now in
    let ws = c.args.words.now in
    let e = word_of_vector p H c.args.j ws ∙ ap (elements_if p H)
    (slice_get_read ws (length ws) c.args.j c.in-Some.w.now refl c.in-Some.ensures.lookup.3.0
    c.in-Some.ensures.lookup.1) in
    subst (λ us. AllFactsKnown H (facts_at (Var c.args.x.0) (in_part (Word 0) us))) (sym e)
    (c.stands_at.ensures t)

pub returns-in-None : goal.returns-in-None
returns-in-None c = λ t.
    let p = tables_of c.args.system.now in
    let H = held c.args.facts.now in
    let ws = c.args.words.now in
    let e = word_of_vector p H c.args.j ws ∙ ap (elements_if p H)
    (slice_get_past ws c.args.j c.in-None.ensures.lookup.3) in
    subst (λ us. AllFactsKnown H (facts_at (Var c.args.x.0) (in_part (Word 0) us))) (sym e)
    (λ f h. none_in h)
