-- Masks that grow by those of called procedures, until nothing is added.
use Rattle.std.specs.Prelude.{◌≡◌, ℕ, ◌+◌, ◌-◌, ◌^◌, ◌<◌, List, [], ◌∷◌, length, slice_index_or}
use Rattle.std.specs.Int.RustNames.{bit_or}
use Rattle.std.proofs.Common.{set}

abbrev pub mask_at : List ℕ → (f : ℕ) → ℕ
mask_at masks f = slice_index_or masks f 0

abbrev pub called_by : List (List ℕ) → (f : ℕ) → List ℕ
called_by calls f = slice_index_or calls f []

-- a mask with those of these procedures
abbrev pub joined_masks : (masks : List ℕ) → ℕ → (called : List ℕ) → ℕ
joined_masks masks m [] = m
joined_masks masks m (g ∷ gs) = joined_masks masks (bit_or m (mask_at masks g)) gs

-- procedure f's mask with those of the procedures that it calls
abbrev pub with_called : (calls : List (List ℕ)) → List ℕ → (f : ℕ) → ℕ
with_called calls masks f = joined_masks masks (mask_at masks f) (called_by calls f)

-- from the one masks to the other, one procedure after another
pub data Grows (calls : List (List ℕ)) (old : List ℕ) : List ℕ → Type 0 where
  same : Grows calls old old
  more : {masks : List ℕ} (f : ℕ) → Grows calls old masks → f < length masks
      → Grows calls old (set masks f (with_called calls masks f))

-- nothing is added to the first n masks
abbrev pub MasksAreClosed : (calls : List (List ℕ)) → List ℕ → (n : ℕ) → Type 0
MasksAreClosed calls masks n = (f : ℕ) → f < n → with_called calls masks f ≡ mask_at masks f

-- how far the masks are from having all bits
abbrev pub room : List ℕ → ℕ
room [] = 0
room (m ∷ ms) = (2 ^ 32 - m) + room ms
