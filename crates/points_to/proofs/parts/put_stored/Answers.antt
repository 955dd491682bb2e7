use Rattle.std.proofs.Common.{◌≡◌, ◌++◌, OnOk, None, Some, sym, ap, ◌∙◌, subst}
use Rattle.points_to.specs.Known.{held}
use Rattle.points_to.specs.PartWords.{stored_part}
use Rattle.points_to.specs.Stored.{tables_in, value_at}
use Rattle.seq.proofs.Lists.{append_nil}
use Rattle.points_to.proofs.parts.put_stored.Goals as goal

pub returns-in-None : goal.returns-in-None
returns-in-None c =
    let none : value_at c.args.origin.now.values c.args.n ≡ None = sym c.in-None.ensures in
    sym (ap (λ o. c.args.out.now ++ stored_part (tables_in c.args.origin.now)
    (held c.args.facts.now) c.args.part o) none ∙ append_nil c.args.out.now)

pub returns-in-Some : goal.returns-in-Some
returns-in-Some c =
    let some : value_at c.args.origin.now.values c.args.n ≡ Some c.in-Some.v.now
    = sym c.in-Some.ensures in
    subst (λ o. OnOk c.put_value.result
    (c.put_value.new.out ≡ c.args.out.now ++ stored_part (tables_in c.args.origin.now)
    (held c.args.facts.now) c.args.part o)) (sym some) c.put_value.ensures
