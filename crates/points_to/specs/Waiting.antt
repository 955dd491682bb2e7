-- The inclusions that wait, and those that are registered as readers of places.
use Rattle.std.specs.Prelude.{◌≡◌, ◌+◌, ◌*◌, ◌<◌, ◌≤◌, ℕ, suc, ◌⊎◌, List, [], ◌∷◌, ◌++◌, length, get_or, slice_get}
use Rattle.flow_system.specs.declared.fact.Place.{Place}
use Rattle.flow_system.specs.declared.fact.Place.TheVariants.{Site, Var, Result}
use Rattle.points_to.specs.declared.pending.Pending.{Pending}
use Rattle.points_to.specs.declared.readers.Readers.{Readers}
use Rattle.points_to.specs.Held.{In}
use Rattle.points_to.specs.Bits.{block_numbers}
use Rattle.seq.specs.Lists.{or_empty}

-- the numbers in groups of 64, of which the first has this number
abbrev pub numbers_from : ℕ → List ℕ → List ℕ
numbers_from g [] = []
numbers_from g (w ∷ ws) = block_numbers (g, w) ++ numbers_from (suc g) ws

abbrev pub waiting : Pending → List ℕ
waiting w = numbers_from 0 w.groups.items

-- a group has some number
pub record GroupIsNonempty (gs : List ℕ) (k : ℕ) : Type 0 where
  pub within : k < length gs
  pub some : 0 < get_or gs k 0

-- the groups from a place on have none, and those up to a place
abbrev pub GroupsEmptyFrom : List ℕ → ℕ → Type 0
GroupsEmptyFrom gs at = (i : ℕ) → at ≤ i → i < length gs → get_or gs i 0 ≡ 0

abbrev pub GroupsEmptyTo : List ℕ → ℕ → Type 0
GroupsEmptyTo gs at = (i : ℕ) → i ≤ at → i < length gs → get_or gs i 0 ≡ 0

-- a number waits, beside those that waited
pub record Waits (old new : List ℕ) (n : ℕ) : Type 0 where
  pub kept : (m : ℕ) → In m old → In m new
  pub put : In n new

-- a number is taken, and no other
pub record Takes (old new : List ℕ) (n : ℕ) : Type 0 where
  pub rest : (m : ℕ) → In m old → (m ≡ n) ⊎ In m new
  pub shorter : length new < length old

-- the number of a place among those of all kinds
abbrev pub place_slot : Place → ℕ
place_slot (Site n) = 3 * n
place_slot (Var n) = 3 * n + 1
place_slot (Result n) = 3 * n + 2

-- the numbers in the row with this number, none where there is no such row
abbrev pub numbers_at : List (List ℕ) → ℕ → List ℕ
numbers_at rows n = or_empty (slice_get rows n)

-- the inclusions that are registered at a place
abbrev pub readers_of : Readers → Place → List ℕ
readers_of r q = numbers_at r.by_slot.items (place_slot q)

-- an inclusion is registered at a place, beside those that were registered
pub record RegistersReader (old new : Place → List ℕ) (q : Place) (n : ℕ) : Type 0 where
  pub kept : (r : Place) (m : ℕ) → In m (old r) → In m (new r)
  pub put : In n (new q)

-- a place has no readers any more, and other places keep theirs, except perhaps some of its own
pub record ClearsReaders (old new : Place → List ℕ) (q : Place) : Type 0 where
  pub none : new q ≡ []
  pub rest : (r : Place) (m : ℕ) → In m (old r) → In m (new r) ⊎ In m (old q)
