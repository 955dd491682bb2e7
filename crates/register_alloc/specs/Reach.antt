-- The least masks that have each procedure's own registers and those of the procedures that it
-- calls.
use Rattle.std.specs.Prelude.{◌≡◌, ◌↔◌, ℕ, List, Some, slice_get, slice_index_or}
use Rattle.std.specs.Int.{bit_at}

-- register r is procedure f's own, by bit r of its mask, or that of a procedure that it calls
pub data MayChangeRegister (own : List ℕ) (calls : List (List ℕ)) : (f r : ℕ) → Type 0 where
  its_own : (f r : ℕ) → bit_at (slice_index_or own f 0) r ≡ 1 → MayChangeRegister own calls f r
  called : (f g k r : ℕ) (gs : List ℕ) → slice_get calls f ≡ Some gs → slice_get gs k ≡ Some g
      → MayChangeRegister own calls g r → MayChangeRegister own calls f r

-- masks that have just these registers
abbrev pub AreLeastMasks : (own : List ℕ) (calls : List (List ℕ)) → (masks : List ℕ) → Type 0
AreLeastMasks own calls masks =
    (f r : ℕ) → (bit_at (slice_index_or masks f 0) r ≡ 1) ↔ MayChangeRegister own calls f r
