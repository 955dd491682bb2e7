-- The first place that is too broad, looked for piece by piece.
use Rattle.std.proofs.Common.{◌≡◌, ℕ, ◌+◌, List, [], ◌∷◌, ◌++◌, length, take, refl, arith, Option}
use Rattle.std.specs.Prelude.{nat_lt}
use Rattle.std.proofs.lemmas.List.{length-take}
use Rattle.lambda_reader.specs.Tree.{Program}
use Rattle.lambda_lift.specs.Abstractions.{Abstraction}
use Rattle.lambda_lift.specs.Broadest.{earlier_place_if, exceeds_parameter_limit, too_broad}

pub broad_joined : (c : Program) (first : Option ℕ) (xs ys : List Abstraction)
    → too_broad c first (xs ++ ys) ≡ too_broad c (too_broad c first xs) ys
unfolding too_broad
broad_joined c first [] ys = refl
broad_joined c first (x ∷ xs) ys = broad_joined c
    (earlier_place_if (exceeds_parameter_limit c x) x.at first) xs ys

pub broad_none : (c : Program) (first : Option ℕ) → too_broad c first [] ≡ first
unfolding too_broad
broad_none c first = refl

pub broad_one : (c : Program) (first : Option ℕ) (x : Abstraction) (xs : List Abstraction)
    → too_broad c first (x ∷ xs) ≡ too_broad c
    (earlier_place_if (exceeds_parameter_limit c x) x.at first) xs
unfolding too_broad
broad_one c first x xs = refl

-- thirteen of the names are enough
pub thirteen : (xs : List ℕ) (n : ℕ) → nat_lt 12 (length (take 13 xs) + n) ≡ nat_lt 12
    (length xs + n)
thirteen xs n = grind (arith, length-take 13 xs)
