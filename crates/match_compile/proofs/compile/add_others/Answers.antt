use Rattle.std.proofs.Common.{◌∷◌, [], map, ap, ◌∙◌}
use Rattle.std.proofs.lemmas.List.{map-append}
use Rattle.core_reader.specs.Tree.{function}
use Rattle.match_compile.specs.Translated.{function_of, next_of}
use Rattle.match_compile.specs.DecisionOf.{decision_of}
use Rattle.match_compile.specs.EmissionOf.{number_of}
use Rattle.match_compile.proofs.Compiled.{backward, other_more, others_end}
use Rattle.match_compile.proofs.compile.add_others.Goals as goal

pub decisions-preserved : goal.decisions-preserved
decisions-preserved c =
    let w = c.args.words.now in
    let d = c.in-Some.decision in
    other_more w c.decisions.decisions c.pop.new.self d (map function c.decisions.others)
    (map function c.push.new.self) _ (number_of c.in_ok-next.next)
    (function c.in_ok-other.other)
    c.in-Some.ensures
    (c.in_ok-next.ensures ∙ ap (λ ds. next_of w (decision_of d) (backward ds))
    c.as_slice.ensures)
    (c.in_ok-other.ensures ∙ ap (λ x. function_of w x (decision_of d) (number_of c.in_ok-next.next))
    c.in_ok-name.ensures)
    (ap (map function) c.in_ok-push.ensures.ok ∙ map-append function c.decisions.others
    (c.in_ok-other.other ∷ []))
    c.decisions.invariant

pub returns : goal.returns
returns c = others_end c.args.words.now c.decisions.decisions (map function c.decisions.others) _
    c.in_default.ensures.0 c.decisions.invariant
