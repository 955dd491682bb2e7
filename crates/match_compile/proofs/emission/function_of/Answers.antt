use Rattle.std.proofs.Common.{ℕ, Bool, [], Option, ap, ◌∙◌}
use Rattle.core_reader.specs.Tree.{expr}
use Rattle.arity_check.specs.Scope.{Scope}
use Rattle.match_compile.specs.Decisions.{Decision}
use Rattle.match_compile.specs.Translated.{Words, binders, call, expr_of}
use Rattle.match_compile.specs.DecisionOf.{decision_of}
use Rattle.match_compile.specs.EmissionOf.{number_of, places_of}
use Rattle.match_compile.proofs.Emitted.{function_is}
use Rattle.match_compile.proofs.emission.function_of.Goals as goal

pub returns : goal.returns
returns c =
    let d : Decision = decision_of c.args.decision in
    let w : Words = c.args.words.now in
    let next : Option ℕ = number_of c.args.next in
    let places : Scope = c.in_ok-places.places in
    let called : Bool = c.is_called-is_called.result in
    function_is w c.args.name.0 d next c.in_ok-columns.columns places c.in_ok-params.params
    (expr c.in_ok-body.body) called
    c.in_ok-columns.ensures.numbers c.is_called-is_called.ensures
    (c.in_ok-places.ensures ∙ ap (λ cs. places_of w d.at d.params called d.tree cs [])
    c.as_slice.ensures)
    (c.in_ok-params.ensures ∙ ap (λ cs. binders w d.at d.params places cs) c.as_slice-2.ensures)
    (c.in_ok-body.ensures.made ∙ ap
    (λ bs. expr_of w d.at d.params (call w d.at next bs) places d.tree) c.as_slice-3.ensures)
