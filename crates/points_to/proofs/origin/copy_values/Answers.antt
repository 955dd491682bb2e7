use Rattle.std.proofs.Common.{◌≡◌, List, [], ◌∷◌, map, refl, ap, ◌∙◌}
use Rattle.std.proofs.lemmas.List.{take_all}
use Rattle.flow_system.specs.Shown.{inclusion_of}
use Rattle.points_to.specs.Stored.{value_in}
use Rattle.points_to.proofs.origin.copy_values.Goals as goal

-- one function after another
both : {X Y Z : Type 0} (f : Y → Z) (g : X → Y) (xs : List X)
    → map (λ x. f (g x)) xs ≡ map f (map g xs)
both f g [] = refl
both f g (x ∷ xs) = ap (λ l. f (g x) ∷ l) (both f g xs)

pub returns : goal.returns
returns c =
    c.loop-inclusion.invariant ∙ ap (map (λ i. value_in (inclusion_of i)))
    (take_all c.loop-inclusion.inclusion-index c.args.inclusions.now
    c.loop-inclusion-test.false)
    ∙ both value_in inclusion_of c.args.inclusions.now
