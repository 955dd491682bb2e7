use Rattle.std.proofs.Common.{◌≡◌, ◌++◌, OnOk, sym, subst}
use Rattle.flow_system.specs.Shown.{tables_of, inclusion_of}
use Rattle.points_to.specs.Known.{held}
use Rattle.points_to.specs.Asked.{facts_demanded}
use Rattle.points_to.proofs.ask.facts_demanded.Goals as goal

pub returns-in-Applies : goal.returns-in-Applies
returns-in-Applies c =
    subst (λ i. OnOk c.applies_facts.result
    (c.applies_facts.new.out ≡ c.args.out.now ++ facts_demanded (tables_of c.args.system.now)
    (held c.args.facts.now) (inclusion_of i))) (sym c.in-Applies.is) c.applies_facts.ensures
