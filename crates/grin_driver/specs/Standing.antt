-- In which procedure an image stood where its run found no alternative.
use Rattle.std.specs.Prelude.{◌≡◌, ℕ, ◌≤◌, ◌<◌, List, ◌++◌, length, min, take, codes, Option, Some, None, slice_get}
use Rattle.text_commands.specs.declared.status.Status.{Status}
use Rattle.text_commands.specs.declared.status.Status.TheVariants.{NoAlternative}

-- procedure f is the last one that starts at or before an address
pub record IsLastStartBefore (starts : List ℕ) (at f : ℕ) : Type 0 where
  pub start : ℕ
  pub starts_there : slice_get starts f ≡ Some start
  pub before : start ≤ at
  pub last : (k other : ℕ) → slice_get starts k ≡ Some other → other ≤ at → other ≤ start

-- in whose code an address lies, where procedures start at these: that of the last one that starts
-- at or before it, and of none where all start behind it
abbrev pub LiesInProcedure : (starts : List ℕ) → (at : ℕ) → Option ℕ → Type 0
LiesInProcedure starts at None = (k start : ℕ) → slice_get starts k ≡ Some start → at < start
LiesInProcedure starts at (Some f) = IsLastStartBefore starts at f

-- the line that names a procedure, of whose name at most a hundred bytes are shown
abbrev pub place_line : (name : List ℕ) → List ℕ
place_line name =
    codes "grinc: no alternative in " ++ (take (min (length name) 100) name ++ codes "\n")

-- the line names the procedure in whose code an address lies; there is none where it lies in none
abbrev pub LineNamesProcedure : (starts : List ℕ) → (names : List (List ℕ))
    → (at : ℕ) → Option (List ℕ) → Type 0
LineNamesProcedure starts names at None = LiesInProcedure starts at None
LineNamesProcedure starts names at (Some line) =
    (f : ℕ) × LiesInProcedure starts at (Some f)
    × ((name : List ℕ) × (slice_get names f ≡ Some name) × (line ≡ place_line name))

-- the line for a run that ended so, whose last step in the code of procedures stood here
abbrev pub IsPlaceLine :
    (starts : List ℕ) → (names : List (List ℕ)) → Status → (at : ℕ) → Option (List ℕ) → Type 0
IsPlaceLine starts names NoAlternative at line = LineNamesProcedure starts names at line
IsPlaceLine starts names _ at line = line ≡ None
