use Rattle.std.proofs.Common.{◌≡◌, ℕ, List, [], ◌∷◌, ◌++◌, map, get_or, refl, sym, ap, ◌∙◌}
use Rattle.std.proofs.lemmas.List.{map-append, map_more, take_all}
use Rattle.core_reader.specs.declared.syntax.NameId.{NameId}
use Rattle.core_reader.specs.Tree.{Name, AndTerm, term, terms_of}
use Rattle.core_reader.proofs.TreeOf.{term_of-Name}
use Rattle.lambda_lift.specs.Lifted.{arguments}
use Rattle.lambda_lift.proofs.lifted.arguments.Goals as goal

arguments_of : (at : ℕ) (names : List ℕ) → terms_of (map (λ x. Name x at) names) ≡ arguments at
    names
arguments_of at [] = refl
arguments_of at (x ∷ names) = ap (AndTerm (Name x at)) (arguments_of at names)

pub loop-name-preserved : goal.loop-name-preserved
loop-name-preserved c =
    let x : NameId = record { 0 = get_or c.args.names.now c.loop-name.name-index 0 } in
    ap (map term) c.in_ok-push.ensures.ok ∙ map-append term c.loop-name.args (_ ∷ []) ∙
    (λ i. (c.loop-name.invariant i) ++ (term_of-Name x c.args.at i) ∷ [])
    ∙ sym (map_more (λ x. Name x c.args.at) c.args.names.now c.loop-name.name-index 0
    c.loop-name-test.true)

pub returns : goal.returns
returns c = ap terms_of
    (c.loop-name.invariant ∙ ap (map (λ x. Name x c.args.at))
    (take_all c.loop-name.name-index c.args.names.now c.loop-name-test.false)) ∙ arguments_of
    c.args.at c.args.names.now
