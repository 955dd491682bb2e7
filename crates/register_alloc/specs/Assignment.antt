-- What places say.
use Rattle.std.specs.Prelude.{ℕ, ◌/◌, ◌%◌, ◌^◌, nat_eq, Bool, List, [], slice_index_or}
use Rattle.parallel_move.specs.declared.Spot.{Spot}
use Rattle.parallel_move.specs.declared.Spot.TheVariants.{Scratch}

-- the spot of each variable, the mask of the registers that each procedure may change, the
-- registers saved at each site of a call, and the words of each procedure's frame
pub record Assignment : Type 0 where
  pub spots : List Spot
  pub masks : List ℕ
  pub saves : List (List ℕ)
  pub frames : List ℕ

abbrev pub place_of : Assignment → (var : ℕ) → Spot
place_of a x = slice_index_or a.spots x Scratch

abbrev pub mask_of : Assignment → (proc : ℕ) → ℕ
mask_of a f = slice_index_or a.masks f 0

-- whether a procedure may change a register: bit r of its mask
abbrev pub may_change : Assignment → (proc reg : ℕ) → Bool
may_change a f r = nat_eq (mask_of a f / 2 ^ r % 2) 1

abbrev pub saves_at : Assignment → (site : ℕ) → List ℕ
saves_at a s = slice_index_or a.saves s []

abbrev pub words_at : Assignment → (proc : ℕ) → ℕ
words_at a f = slice_index_or a.frames f 0
