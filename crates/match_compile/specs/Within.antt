-- How a program may stand behind the equations that it was made of, and ahead of them.
use Rattle.std.specs.Prelude.{◌≡◌, ◌≢◌, ℕ, ◌*◌, List}
use Rattle.headline.specs.Carries.{going, IsPrefixOf, MeaningResult, Meaning}

-- what b tells begins with the output of a, and where a has ended it tells the same output and end
pub record ResultExtends (a b : MeaningResult) : Type 0 where
  pub out : IsPrefixOf a.out b.out
  pub ended : a.end ≢ going → (b.out ≡ a.out) × (b.end ≡ a.end)

-- the second meaning needs as many units as the first one at least, and at most so many for each
pub record Within (most : ℕ) (e t : Meaning) : Type 0 where
  pub behind : (i : List ℕ) (n : ℕ) → ResultExtends (t i n) (e i n)
  pub ahead : (i : List ℕ) (n : ℕ) → ResultExtends (e i n) (t i (most * n))

-- Both tell the same output and the same end within the same units
pub record SameWithinSameUnits (e t : Meaning) : Type 0 where
  pub out : (i : List ℕ) (n : ℕ) → (t i n).out ≡ (e i n).out
  pub end : (i : List ℕ) (n : ℕ) → (t i n).end ≡ (e i n).end
