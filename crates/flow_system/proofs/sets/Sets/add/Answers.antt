use Rattle.std.proofs.Common.{rules, ◌≡◌, length, sym, ◌∙◌, subst}
use Rattle.std.specs.BTreeMap as tree
use Rattle.flow_system.specs.Readers.{with_set}
use Rattle.flow_system.specs.Rows.{Numbers}
use Rattle.flow_system.proofs.Numbered.{place_order, without_error, known_set, new_set, numbers_more}
use Rattle.flow_system.proofs.sets.Sets.add.Goals as goal

pub returns-then-contains_key : goal.returns-then-contains_key
returns-then-contains_key c = subst (λ ps. ps ≡ with_set ps c.args.place) c.self.view_is
    (known_set _ _ _ c.self.invariant (sym c.contains_key.ensures ∙ c.if-contains_key.true))

pub invariant_of-self-else-is_err : goal.invariant_of-self-else-is_err
invariant_of-self-else-is_err c =
    let many : c.in-Ok.number ≡ length c.self.inside.places = search rules in
    let h = without_error c.insert.result (sym c.is_err.ensures.value ∙ c.if-is_err.false)
    c.insert.ensures.updates in
    subst (λ ps. Numbers (tree.get place_order c.insert.new.self) ps) (sym c.in_ok-push.ensures.ok)
    (numbers_more _ _ c.self.inside.places c.args.place c.in-Ok.number many c.self.invariant
    (sym c.contains_key.ensures ∙ c.if-contains_key.false) h.0)

pub returns : goal.returns
returns c =
    subst (λ ps. c.push.new.self ≡ with_set ps c.args.place) c.self.view_is
    (c.in_ok-push.ensures.ok ∙ new_set _ _ _ c.self.invariant
    (sym c.contains_key.ensures ∙ c.if-contains_key.false))
