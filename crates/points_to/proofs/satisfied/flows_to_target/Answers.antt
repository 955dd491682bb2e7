use Rattle.std.proofs.Common.{sym, subst}
use Rattle.flow_system.specs.Inclusions.{to}
use Rattle.flow_system.specs.Shown.{tables_of, source_of}
use Rattle.points_to.specs.Asked.{flow_facts}
use Rattle.points_to.specs.Known.{held}
use Rattle.points_to.specs.Rounds.{AllFactsKnown}
use Rattle.points_to.proofs.satisfied.flows_to_target.Goals as goal

pub returns-in-Value : goal.returns-in-Value
returns-in-Value c = λ y. subst
    (λ s. AllFactsKnown (held c.args.facts.now)
    (flow_facts (tables_of c.args.system.now) (held c.args.facts.now) (source_of s)
    (to c.args.target.now))) (sym c.in-Value.is) (c.is_at_target.ensures y)

pub returns-in-Result : goal.returns-in-Result
returns-in-Result c = λ y. subst
    (λ s. AllFactsKnown (held c.args.facts.now)
    (flow_facts (tables_of c.args.system.now) (held c.args.facts.now) (source_of s)
    (to c.args.target.now))) (sym c.in-Result.is) (c.result_is_at_target.ensures y)

pub returns-in-FieldsOf : goal.returns-in-FieldsOf
returns-in-FieldsOf c = λ y. subst
    (λ s. AllFactsKnown (held c.args.facts.now)
    (flow_facts (tables_of c.args.system.now) (held c.args.facts.now) (source_of s)
    (to c.args.target.now))) (sym c.in-FieldsOf.is) (c.fields_at_target.ensures y)
