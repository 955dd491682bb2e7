use Rattle.std.proofs.Common.{◌++◌, ◌∷◌, [], map, ap, ◌∙◌}
use Rattle.std.proofs.lemmas.List.{map-append}
use Rattle.seq.proofs.Results.{ok_follows}
use Rattle.core_reader.specs.Tree.{function}
use Rattle.match_compile.specs.Translated.{Words, next_of}
use Rattle.match_compile.specs.DecisionOf.{decision_of, decisions_of}
use Rattle.match_compile.specs.EmissionOf.{number_of}
use Rattle.match_compile.proofs.Compiled.{backward, first_is}
use Rattle.match_compile.proofs.compile.add_function.Goals as goal

pub returns-clause-firsts : goal.returns-clause-firsts
returns-clause-firsts c =
    let w : Words = c.args.words.now in
    let d = c.in-Some.decision in
    ok_follows _ _ c.add_others.result (λ x e.
    ap (map function) c.in_ok-push.ensures.ok ∙ map-append function c.args.firsts.now
    (c.in_ok-first.first ∷ [])
    ∙ ap (λ fs. map function c.args.firsts.now ++ fs)
    (first_is w (decisions_of c.args.decisions) c.pop.new.self c.in_ok-left.left d
    (number_of c.in_ok-next.next) (function c.in_ok-first.first)
    c.in_ok-left.ensures c.in-Some.ensures
    (c.in_ok-next.ensures ∙ ap (λ ds. next_of w (decision_of d) (backward ds))
    c.as_slice.ensures) c.in_ok-first.ensures).0) c.add_others.ensures
