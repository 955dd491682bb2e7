-- Numbers of so many bits, with and without sign.
use Rattle.std.specs.Prelude.{◌≡◌, ℕ, ℤ, pos, negsuc, suc, ◌-◌, ◌/◌, ◌%◌, ◌≤ℤ◌, nat_lt, if◌then◌else◌}

-- the pattern of a signed number among m patterns, m a power of two
abbrev pub unsigned_part : ℕ → ℤ → ℕ
unsigned_part m (pos n) = n
unsigned_part m (negsuc n) = m - suc n

-- the signed number of a pattern among m: the upper half stands for the negative ones
abbrev pub signed_part : ℕ → ℕ → ℤ
signed_part m u = if nat_lt u (m / 2) then pos u else negsuc (m - suc u)

-- a signed number of 12 bits
abbrev pub IsImm12 : ℤ → Type 0
IsImm12 i = (negsuc 2047 ≤ℤ i) × (i ≤ℤ pos 2047)

-- an even signed number of 13 bits, and one of 21
abbrev pub IsOffB : ℤ → Type 0
IsOffB i = (negsuc 4095 ≤ℤ i) × (i ≤ℤ pos 4094) × (unsigned_part 8192 i % 2 ≡ 0)

abbrev pub IsOffJ : ℤ → Type 0
IsOffJ i = (negsuc 1048575 ≤ℤ i) × (i ≤ℤ pos 1048574) × (unsigned_part 2097152 i % 2 ≡ 0)

-- the signed number of the lower 12 bits
abbrev pub lower : ℕ → ℤ
lower n = signed_part 4096 (n % 4096)
