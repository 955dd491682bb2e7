-- Spots that an instruction can name, and spots that words stand at.
use Rattle.std.specs.Prelude.{◌≡◌, ◌≢◌, ℕ, ◌<◌, nat_lt, Bool, true, false, ◌||◌, List, [], ◌∷◌}
use Rattle.parallel_move.specs.declared.Spot.{Spot}
use Rattle.parallel_move.specs.declared.Spot.TheVariants.{Reg, Slot, Scratch}
use Rattle.parallel_move.specs.Moves.{same}
use Rattle.rv32_select.specs.declared.source.Source.{Source}
use Rattle.rv32_select.specs.declared.source.Source.TheVariants.{At, Number}

-- a register is one of x0 to x31
abbrev pub in_range : Spot → Bool
in_range (Reg r) = nat_lt r 32
in_range (Slot k) = true
in_range Scratch = true

abbrev pub AllInRange : List Spot → Type 0
AllInRange [] = Unit {0}
AllInRange (s ∷ ss) = (in_range s ≡ true) × AllInRange ss

abbrev pub AreRegisters : List ℕ → Type 0
AreRegisters [] = Unit {0}
AreRegisters (r ∷ rs) = (r < 32) × AreRegisters rs

abbrev pub IsSpot : Spot → Type 0
IsSpot s = (in_range s ≡ true) × (s ≢ Scratch)

abbrev pub AreSpots : List Spot → Type 0
AreSpots [] = Unit {0}
AreSpots (s ∷ ss) = IsSpot s × AreSpots ss

abbrev pub IsSource : Source → Type 0
IsSource (At s) = IsSpot s
IsSource (Number n) = Unit {0}

abbrev pub AreSources : List Source → Type 0
AreSources [] = Unit {0}
AreSources (s ∷ ss) = IsSource s × AreSources ss

abbrev pub is_spot_in : Spot → List Spot → Bool
is_spot_in s [] = false
is_spot_in s (t ∷ ts) = same s t || is_spot_in s ts

-- no spot twice
abbrev pub AllSpotsDiffer : List Spot → Type 0
AllSpotsDiffer [] = Unit {0}
AllSpotsDiffer (s ∷ ss) = (is_spot_in s ss ≡ false) × AllSpotsDiffer ss

-- spots to which words can go at once
pub record AreTargets (to : List Spot) : Type 0 where
  pub spots : AreSpots to
  pub different : AllSpotsDiffer to
