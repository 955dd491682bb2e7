use Rattle.std.proofs.Common.{subst}
use Rattle.std.specs.Prelude.{IsTrue}
use Rattle.flow_system.specs.declared.fact.Element.TheVariants.{Tag}
use Rattle.flow_system.specs.declared.fact.Place.TheVariants.{Var}
use Rattle.flow_system.specs.declared.fact.Part.TheVariants.{Word}
use Rattle.points_to.specs.Held.{In, elements}
use Rattle.points_to.specs.Known.{held}
use Rattle.points_to.proofs.FieldWords.{not_true}
use Rattle.points_to.proofs.GivenItems.{picked_in}
use Rattle.points_to.proofs.satisfied.is_never.Goals as goal

pub returns-else-has : goal.returns-else-has
returns-else-has c = λ y p h.
    let H = held c.args.facts.now in
    not_true (subst IsTrue c.if-has.false
    (c.has.ensures.1
    (picked_in (Word 0) (H (Var c.in-Var.x.0))
    (subst (λ w. In (Tag c.args.t) (elements p H w)) c.in-Var.is h))))
