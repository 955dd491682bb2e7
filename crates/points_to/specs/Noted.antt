-- Sets that were put together once, by number.
use Rattle.std.specs.Prelude.{◌≡◌, ℕ, List, Option, Some, None, slice_get}
use Rattle.grin_syntax.specs.declared.program.Val.{Val}
use Rattle.flow_system.specs.declared.fact.Place.{Place}
use Rattle.flow_system.specs.Tables.{Tables}
use Rattle.points_to.specs.declared.bits.Bits.{Bits}
use Rattle.points_to.specs.declared.facts.Item.{Item}
use Rattle.points_to.specs.declared.noted.NotedSets.{NotedSets}
use Rattle.points_to.specs.Rows.{words_in, SameMembers}
use Rattle.points_to.specs.Stored.{value_at}
use Rattle.points_to.specs.ValueWords.{stored_words}

-- the set of a number, where there is one
abbrev pub noted : Option (Option Bits) → Option Bits
noted None = None
noted (Some b) = b

abbrev pub noted_at : NotedSets → ℕ → Option Bits
noted_at m n = noted (slice_get m.by_number.items n)

-- the sets are the first words of the values with these numbers
abbrev pub AreFirstWords : Tables → List (Option Val) → (Place → List Item) → NotedSets → Type 0
AreFirstWords p vs H m = (n : ℕ) (b : Bits) → noted_at m n ≡ Some b
    → SameMembers (words_in b) (stored_words p H 0 (value_at vs n))
