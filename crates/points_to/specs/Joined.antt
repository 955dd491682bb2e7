-- Members of two lists together.
use Rattle.std.specs.Prelude.{ℕ, ◌⊎◌, List}
use Rattle.points_to.specs.Held.{In}

-- the new list has the members of the old one and those of `more`
pub record Joined (old more new : List ℕ) : Type 0 where
  pub kept : (n : ℕ) → In n old → In n new
  pub put : (n : ℕ) → In n more → In n new
  pub only : (n : ℕ) → In n new → In n old ⊎ In n more
