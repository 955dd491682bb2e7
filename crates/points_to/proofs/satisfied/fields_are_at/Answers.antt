use Rattle.std.proofs.Common.{length, ap, refl, subst}
use Rattle.std.proofs.lemmas.Option.{slice_get_read}
use Rattle.flow_system.specs.Shown.{tables_of}
use Rattle.flow_system.specs.declared.fact.Element.TheVariants.{Tag}
use Rattle.points_to.specs.Held.{In}
use Rattle.points_to.specs.Known.{held}
use Rattle.points_to.proofs.Direct.{elements_if}
use Rattle.points_to.proofs.FieldWords.{never_asked}
use Rattle.points_to.proofs.satisfied.fields_are_at.Goals as goal

pub returns-then-is_never : goal.returns-then-is_never
returns-then-is_never c = λ y.
    let p = tables_of c.args.system.now in
    let H = held c.args.facts.now in
    let ws = c.args.words.now in
    let read = ap (elements_if p H)
    (slice_get_read ws (length ws) 0 c.in-Some.w.now refl c.in-Some.ensures.lookup.3.0
    c.in-Some.ensures.lookup.1) in
    never_asked p H ws c.args.t
    (λ h. c.is_never.ensures c.if-is_never.true p (subst (In (Tag c.args.t)) read h)) 0
    c.args.xs.now
