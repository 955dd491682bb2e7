-- The offsets that instructions take lead where they should.
use Rattle.std.proofs.Common.{◌≡◌, ℕ, suc, ◌+◌, ◌-◌, ◌*◌, ◌/◌, ◌%◌, ◌≤◌, Bool, true, false, refl, arith}
use Rattle.std.specs.Prelude.{pos, negsuc, nat_le, nat_lt, if◌then◌else◌}
use Rattle.std.proofs.lemmas.Bool.{leb-true, leb-false, ltb-true, ltb-false}
use Rattle.rv32_machine.specs.Arithmetic.{plus, pattern}
use Rattle.rv32_layout.specs.Forms.{offset, distance, upper}
use Rattle.rv32_isa.specs.Bits.{lower}

-- the address of a word of the code
abbrev pub address : ℕ → ℕ
address w = 65536 + 4 * w

pub offset_lands : (from to : ℕ) → from ≤ 268435457 → to ≤ 268435456
    → plus (address from) (pattern (offset from to)) ≡ address to
offset_lands from to hf ht = at (nat_le from to) refl
  where
    at : (b : Bool) → nat_le from to ≡ b → plus (address from)
        (pattern (if b then pos (4 * (to - from)) else negsuc (4 * (from - to) - 1))) ≡ address to
    at true e = let h = leb-true from to e in omega arith
    at false e = let h = leb-false from to e in omega arith

-- the two parts of a distance, added to the address of a word
pub distance_lands : (from to : ℕ) → from ≤ 268435457 → to ≤ 268435456
    → plus (plus (address from) (upper (distance from to) * 4096))
    (pattern (lower (distance from to))) / 2 * 2 ≡ address to
distance_lands from to hf ht = parts from to (distance from to) refl hf ht
    (nat_lt (distance from to % 4096) 2048) refl
  where
    parts : (from to u : ℕ) → u ≡ distance from to → from ≤ 268435457 → to ≤ 268435456 → (b : Bool)
        → nat_lt (u % 4096) 2048 ≡ b → plus (plus (address from) (upper u * 4096))
        (pattern (if b then pos (u % 4096) else negsuc (4096 - suc (u % 4096)))) / 2 * 2 ≡ address
        to
    parts from to u d hf ht true e = let h = ltb-true (u % 4096) 2048 e in omega arith
    parts from to u d hf ht false e = let h = ltb-false (u % 4096) 2048 e in omega arith
