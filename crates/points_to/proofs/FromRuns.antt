-- What is made of runs, run by run.
use Rattle.std.proofs.Common.{◌≡◌, ℕ, ◌++◌, List, [], ◌∷◌, map, refl, ap, ◌∙◌}
use Rattle.std.specs.List.{flat_map}
use Rattle.flow_system.specs.declared.fact.Element.{Element}
use Rattle.flow_system.specs.declared.fact.Place.{Place}
use Rattle.flow_system.specs.declared.fact.Part.{Part}
use Rattle.points_to.specs.Asked.{fact, facts_at}
use Rattle.points_to.specs.Bits.{block_words}
use Rattle.points_to.specs.Held.{item, in_part}
use Rattle.points_to.specs.Rows.{SameMembers}
use Rattle.points_to.proofs.BlockSets.{same_map}

pub map_flat : {X Y Z : Type 0} (f : Y → Z) (g : X → List Y) (xs : List X)
    → map f (flat_map g xs) ≡ flat_map (λ x. map f (g x)) xs
map_flat f g [] = refl
map_flat f g (x ∷ xs) = map_append (g x) (flat_map g xs) ∙ ap (λ l. map f (g x) ++ l)
    (map_flat f g xs)
  where
    map_append : (ys zs : _) → map f (ys ++ zs) ≡ map f ys ++ map f zs
    map_append [] zs = refl
    map_append (y ∷ ys) zs = ap (λ l. f y ∷ l) (map_append ys zs)

-- the words of blocks, at a place
pub facts_of_blocks : (q : Place) (part : Part) (bs : List (ℕ × ℕ))
    → facts_at q (in_part part (flat_map block_words bs)) ≡ flat_map
    (λ b. facts_at q (in_part part (block_words b))) bs
facts_of_blocks q part bs = ap (facts_at q) (map_flat (item part) block_words bs) ∙ map_flat
    (fact q) (λ b. in_part part (block_words b)) bs

-- the same words, at a place
pub alike_at : (q : Place) (part : Part) (ws vs : List Element) → SameMembers ws vs
    → SameMembers (facts_at q (in_part part ws)) (facts_at q (in_part part vs))
alike_at q part ws vs s = same_map (fact q) (in_part part ws) (in_part part vs)
    (same_map (item part) ws vs s)
