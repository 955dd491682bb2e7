use Rattle.std.proofs.Common.{[], sym, ap, ◌∙◌, subst}
use Rattle.grin_syntax.specs.declared.program.Val.TheVariants.{Vector as VectorVal}
use Rattle.grin_syntax.specs.declared.program.Target.TheVariants.{Vector as VectorTarget}
use Rattle.flow_system.specs.Inclusions.{value, arguments, to}
use Rattle.flow_system.specs.Shown.{tables_of}
use Rattle.points_to.specs.Asked.{flow_facts}
use Rattle.points_to.specs.Known.{held}
use Rattle.points_to.specs.Rounds.{AllFactsKnown}
use Rattle.points_to.proofs.satisfied.fields_at_target.Goals as goal

pub returns-in-Vector-target : goal.returns-in-Vector-target
returns-in-Vector-target c = λ y.
    let p = tables_of c.args.system.now in
    let H = held c.args.facts.now in
    let t = c.args.t in
    let v = ap VectorVal c.as_slice-ws.ensures ∙ sym c.in-Vector.is in
    let k = ap VectorTarget c.as_slice-ys.ensures ∙ sym c.in-Vector-target.is in
    subst (λ k. AllFactsKnown H (flow_facts p H (arguments (value c.args.v.now) t []) (to k))) k
    (subst (λ v. AllFactsKnown H
    (flow_facts p H (arguments (value v) t []) (to (VectorTarget c.as_slice-ys.result.now)))) v
    (c.fields_are_at.ensures y))
