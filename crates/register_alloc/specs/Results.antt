-- The procedures that are called, and the registers of results.
use Rattle.std.specs.Prelude.{ℕ, ◌-◌, ◌*◌, ◌^◌, min, List, [], ◌∷◌}
use Rattle.low_code.specs.Formed.{Site}

abbrev pub callees : List Site → List ℕ
callees [] = []
callees (s ∷ ss) = s.1 ∷ callees ss

-- the mask of x10 and the registers after it, so many, of which there are at most 13
abbrev pub result_mask : ℕ → ℕ
result_mask n = (2 ^ min n 13 - 1) * 1024
