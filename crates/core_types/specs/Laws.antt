-- What holds of the constraints of a program.
use Rattle.std.specs.Prelude.{◌≡◌, ℕ, ◌<◌, List, Some, slice_get}
use Rattle.core_types.specs.Source.{Source}
use Rattle.core_types.specs.Text.{IsSourceText}
use Rattle.core_types.specs.Typing.{Constraint, constraints}

-- The constraints of the program that a text stands for are in text order: each one's place is
-- before those of all that follow.
abbrev pub ConstraintsAscend : Type 0
ConstraintsAscend =
    (text : List ℕ) (s : Source) → IsSourceText text s
    → (i j : ℕ) (c d : Constraint) → i < j
    → slice_get (constraints s) i ≡ Some c → slice_get (constraints s) j ≡ Some d → c.at < d.at
