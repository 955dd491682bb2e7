-- Where items stand, in words from the first one of the code, and the ways that they go.
use Rattle.std.specs.Prelude.{◌≡◌, ℕ, zero, suc, ◌+◌, ◌^◌, ◌<◌, ◌≤◌, List, [], ◌∷◌, ◌++◌, Option, Some, None, IsSome, length, slice_get, unwrap_or}
use Rattle.rv32_isa.specs.declared.instr.Instr.{Instr}
use Rattle.rv32_isa.specs.Table.{instr_of}
use Rattle.rv32_items.specs.declared.Item.{Item}
use Rattle.rv32_items.specs.declared.Item.TheVariants.{Label, Plain, Branch, Jump}
use Rattle.rv32_items.specs.Course.{label_from}
use Rattle.rv32_layout.specs.declared.form.Way.{Way}
use Rattle.rv32_layout.specs.declared.form.Way.TheVariants.{ByAddress}
use Rattle.rv32_layout.specs.Forms.{instructions, width, shortest, CanGo}

-- the way of item n, which is the longest where none is given
abbrev pub way_at : List Way → ℕ → Way
way_at ways n = unwrap_or (slice_get ways n) ByAddress

abbrev pub width_in : Way → Option Item → ℕ
width_in way None = 0
width_in way (Some i) = width way i

-- so many words stand before item n
unfoldable pub place : List Way → List Item → ℕ → ℕ
place ways items zero = 0
place ways items (suc n) = place ways items n + width_in (way_at ways n) (slice_get items n)

-- the number of the item to which an item may go
abbrev pub goal : List Item → Item → ℕ
goal items (Label l) = 0
goal items (Plain i) = 0
goal items (Branch cond left right l) = unwrap_or (label_from 0 items l) 0
goal items (Jump link l) = unwrap_or (label_from 0 items l) 0

-- each item gets to its goal by its way
abbrev pub AllReachTargets : List Item → List Way → Type 0
AllReachTargets items ways = (n : ℕ) (i : Item) → slice_get items n ≡ Some i →
    CanGo (way_at ways n) (place ways items n) (place ways items (goal items i)) i

-- ---- shorter ways

-- the shortest way of an item that is number n
abbrev pub shortest_at : List Way → List Item → ℕ → Item → Way
shortest_at ways items n i =
    shortest (place ways items n) (place ways items (suc n)) (place ways items (goal items i)) i

-- each item's new way is the shortest by the old ones
abbrev pub Shortens : List Item → (old new : List Way) → Type 0
Shortens items old new =
    (n : ℕ) (i : Item) → slice_get items n ≡ Some i → way_at new n ≡ shortest_at old items n i

-- no item is longer by the new ways than by the old ones
abbrev pub NoLonger : List Item → (old new : List Way) → Type 0
NoLonger items old new =
    (n : ℕ)
    → width_in (way_at new n) (slice_get items n) ≤ width_in (way_at old n) (slice_get items n)

-- no item is longer than the shortest by the longest ways
abbrev pub AllShort : List Item → List Way → Type 0
AllShort items ways =
    (n : ℕ) (i : Item) → slice_get items n ≡ Some i
    → width (way_at ways n) i ≤ width (shortest_at [] items n i) i

-- ---- code

abbrev pub code_at : List Way → List Item → ℕ → Option Item → List Instr
code_at ways items n None = []
code_at ways items n (Some i) =
    instructions (way_at ways n) (place ways items n) (place ways items (goal items i)) i

-- the instructions of the first n items
unfoldable pub code : List Way → List Item → ℕ → List Instr
code ways items zero = []
code ways items (suc n) = code ways items n ++ code_at ways items n (slice_get items n)

-- words that stand for these instructions
abbrev pub Encode : List Instr → (words : List ℕ) → Type 0
Encode [] [] = Unit {0}
Encode [] (w ∷ ws) = ⊥
Encode (i ∷ is) [] = ⊥
Encode (i ∷ is) (w ∷ ws) = (instr_of w ≡ Some i) × ((w < 2 ^ 32) × Encode is ws)

-- words in which no item is longer than the shortest by the longest ways: they encode the code of
-- the items by ways that are short
pub record IsShort (items : List Item) (words : List ℕ) : Type 0 where
  pub ways : List Way
  pub short : AllShort items ways
  pub encode : Encode (code ways items (length items)) words

-- each of these words is that of an instruction
abbrev pub AllDecode : (words : List ℕ) → Type 0
AllDecode words = (n w : ℕ) → slice_get words n ≡ Some w → IsSome (instr_of w)

-- from old words to new ones, these instructions were put at the end
abbrev pub AppendsInstructions : List Instr → (old new : List ℕ) → Type 0
AppendsInstructions is old new =
    (before : List Instr) → Encode before old → Encode (before ++ is) new
