-- The table of the labels.
use Rattle.std.specs.Prelude.{◌≡◌, ℕ, ◌+◌, ◌*◌, ◌<◌, ◌≤◌, List, length, Option, Some, nat_eq, slice_get, unwrap_or, if◌then◌else◌}
use Rattle.std.specs.HashMap.{get}
use Rattle.rv32_items.specs.declared.Item.{Item}
use Rattle.rv32_items.specs.declared.Item.TheVariants.{Label, Plain, Branch, Jump}
use Rattle.rv32_items.specs.Course.{is_label}
use Rattle.rv32_items.specs.Placed.{LabelIsOnlyAt}
use Rattle.rv32_layout.specs.declared.form.Way.{Way}
use Rattle.rv32_layout.specs.declared.spots.Spots.{Spots}
use Rattle.rv32_layout.specs.declared.spots.Spots.TheVariants.{Dense, Sparse}
use Rattle.rv32_layout.specs.Places.{place}
use Rattle.limits.specs.Limits.{code_start, most_code}

-- the spot of a label
abbrev pub find : Spots → ℕ → Option ℕ
find (Dense spots) l = slice_get spots.items l
find (Sparse spots) l = get nat_eq spots l

-- a label can be noted
abbrev pub RoomFor : Spots → ℕ → Type 0
RoomFor (Dense spots) l = l < length spots.items
RoomFor (Sparse spots) l = Unit {0}

abbrev pub HasRoom : List Item → Spots → Type 0
HasRoom items table = (n l : ℕ) → slice_get items n ≡ Some (Label l) → RoomFor table l

-- where an item stands is noted, if it is a label
abbrev pub RecordsLabelSpot : Item → (at : ℕ) → (old new : Spots) → Type 0
RecordsLabelSpot i at old new =
    (l : ℕ) → find new l ≡ (if is_label l i then Some at else find old l)

-- the spot of each label that stands once among the first items is its place
abbrev pub KnowsLabelSpots : List Item → List Way → (first : ℕ) → Spots → Type 0
KnowsLabelSpots items ways first table =
    (l n : ℕ) → LabelIsOnlyAt items l n → n < first → find table l ≡ Some (place ways items n)

-- a label has a spot among the words that code may have
abbrev pub HasSpot : Spots → (label : ℕ) → Type 0
HasSpot table l = (at : ℕ) × (find table l ≡ Some at) × (at ≤ most_code)

-- where a label stands by its spot
abbrev pub label_address : Spots → (label : ℕ) → ℕ
label_address table l = code_start + 4 * unwrap_or (find table l) 0

-- the spot of the item to which an item may go
abbrev pub spot_of : Spots → Item → ℕ
spot_of table (Label l) = 0
spot_of table (Plain i) = 0
spot_of table (Branch cond left right l) = unwrap_or (find table l) 0
spot_of table (Jump link l) = unwrap_or (find table l) 0
