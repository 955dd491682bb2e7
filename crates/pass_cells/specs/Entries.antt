-- Memories as a list of entries, of which the last one of a variable holds; and sets of variables.
use Rattle.std.specs.Prelude.{◌≡◌, ℕ, Bool, true, false, not, ◌||◌, List, [], ◌∷◌, ◌++◌, Option, Some, None}
use Rattle.std.specs.BTreeMap.{is_at}
use Rattle.std.specs.List.{list_any}
use Rattle.std.specs.Ordering.{nat_cmp}
use Rattle.grin_syntax.specs.declared.program.Word.{Word}
use Rattle.pass_ground.specs.Uses.{words_use}
use Rattle.pass_cells.specs.Memory.{Memory, other, lost, holds, KnownCellContents, none, with_memory}
use Rattle.pass_cells.specs.declared.memory.Entry.{Entry}

abbrev pub memory_of : Option (List Word) → Memory
memory_of None = lost
memory_of (Some ws) = holds ws

abbrev pub memories_from : KnownCellContents → List Entry → KnownCellContents
memories_from T [] = T
memories_from T (e ∷ es) = memories_from (with_memory e.var.0 (memory_of e.words) T) es

abbrev pub memories : List Entry → KnownCellContents
memories = memories_from none

abbrev pub is_cell : Memory → Bool
is_cell other = false
is_cell _ = true

-- the second list has the first at its front
abbrev pub ExtendsEntries : List Entry → List Entry → Type 0
ExtendsEntries old new = (more : List Entry) × (new ≡ old ++ more)

-- ---- sets

abbrev pub has : List ℕ → ℕ → Bool
has keys x = list_any (is_at (nat_cmp x)) keys

-- the variables of these words were put into a set
pub record AddsVariables (old : List ℕ) (ws : List Word) (new : List ℕ) : Type 0 where
  pub by : (x : ℕ) → has new x ≡ (has old x || words_use x ws)

-- the variables that aren't in a set of those shown
abbrev pub unshown_by_set : List ℕ → ℕ → Bool
unshown_by_set keys x = not (has keys x)
