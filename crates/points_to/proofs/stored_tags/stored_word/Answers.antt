use Rattle.std.proofs.Common.{◌≡◌, ◌++◌, OnOk, None, Some, sym, ap, ◌∙◌, subst}
use Rattle.flow_system.specs.Shown.{tables_of, inclusions_of}
use Rattle.points_to.specs.Known.{held}
use Rattle.points_to.specs.Stored.{values_in, value_at}
use Rattle.points_to.specs.ValueWords.{stored_words}
use Rattle.seq.proofs.Lists.{append_nil}
use Rattle.points_to.proofs.SiteTags.{value_some, value_none}
use Rattle.points_to.proofs.stored_tags.stored_word.Goals as goal

pub returns-in-None : goal.returns-in-None
returns-in-None c =
    let none : value_at (values_in (inclusions_of c.args.system.now)) c.args.n ≡ None
    = value_none c.args.system.now.inclusions c.args.n (sym c.in-None.ensures.value) in
    sym (ap (λ o. c.args.out.now ++ stored_words (tables_of c.args.system.now)
    (held c.args.facts.now) c.args.i o) none ∙ append_nil c.args.out.now)

pub returns-in-None-value_in : goal.returns-in-None-value_in
returns-in-None-value_in c =
    let none : value_at (values_in (inclusions_of c.args.system.now)) c.args.n ≡ None
    = value_some c.args.system.now.inclusions c.args.n c.in-Some.inclusion.now
    (sym c.in-Some.ensures.value) ∙ sym c.in-None-value_in.ensures in
    sym (ap (λ o. c.args.out.now ++ stored_words (tables_of c.args.system.now)
    (held c.args.facts.now) c.args.i o) none ∙ append_nil c.args.out.now)

pub returns-in-Some-value_in : goal.returns-in-Some-value_in
returns-in-Some-value_in c =
    let some : value_at (values_in (inclusions_of c.args.system.now)) c.args.n ≡ Some
    c.in-Some-value_in.v.now = value_some c.args.system.now.inclusions c.args.n
    c.in-Some.inclusion.now (sym c.in-Some.ensures.value) ∙ sym c.in-Some-value_in.ensures in
    subst (λ o. OnOk c.value_word.result
    (c.value_word.new.out ≡ c.args.out.now ++ stored_words (tables_of c.args.system.now)
    (held c.args.facts.now) c.args.i o)) (sym some) c.value_word.ensures
