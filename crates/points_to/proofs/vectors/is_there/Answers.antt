use Rattle.std.proofs.Common.{List, Some, ap, ◌∙◌, subst}
use Rattle.std.specs.Prelude.{IsTrue}
use Rattle.flow_system.specs.declared.fact.Element.{Element}
use Rattle.flow_system.specs.declared.fact.Place.TheVariants.{Var}
use Rattle.flow_system.specs.declared.fact.Part.TheVariants.{Word}
use Rattle.flow_system.specs.declared.inclusion.FlowSink.TheVariants.{To}
use Rattle.flow_system.specs.Shown.{tables_of, inclusions_of, sink_of}
use Rattle.points_to.specs.declared.facts.Fact.{Fact}
use Rattle.points_to.specs.Asked.{asked}
use Rattle.points_to.specs.Held.{In, in_part, words_in_part}
use Rattle.std.specs.Option.{option_copied}
use Rattle.points_to.specs.Kept.{AreKnown}
use Rattle.points_to.specs.Known.{held}
use Rattle.points_to.specs.Rows.{numbers_in}
use Rattle.points_to.specs.Stored.{values_in}
use Rattle.points_to.specs.ValueWords.{words_of_values}
use Rattle.points_to.proofs.Sets.{if_ok}
use Rattle.points_to.proofs.WholeFetch.{known_at_variable}
use Rattle.points_to.proofs.vectors.is_there.Goals as goal

pub returns-in-One : goal.returns-in-One
returns-in-One c =
    let p = tables_of c.args.system.now in
    let cs = inclusions_of c.args.system.now in
    let H = held c.args.facts.now in
    let us : List Element = words_of_values p (values_in cs) H c.args.i
    (numbers_in c.args.numbers.now) in
    let x = c.in-One.x in
    let is = ap sink_of (c.in-To.is ∙ ap To c.in-One.is) in
    let noted = AreKnown p cs H c.args.i (numbers_in c.args.numbers.now)
    (option_copied c.args.noted) in
    if_ok c.are_known.result
    (λ known. IsTrue known → noted → (u : Element) → In u us
    → In u (words_in_part (Word 0) (H (Var x.0))))
    (λ known. IsTrue known → noted → (f : Fact) → In f
    (asked p H (Some 1) (in_part (Word 0) us) (sink_of c.args.sink.now))
    → In f.item (H f.place))
    (λ b known t n f h. known_at_variable p cs H x us (known t n) f
    (subst (λ s. In f (asked p H (Some 1) (in_part (Word 0) us) s)) is h))
    c.are_known.ensures
