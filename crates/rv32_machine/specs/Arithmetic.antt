-- What the operations compute. A register holds a word, a number below 2 ^ 32; the signed
-- operations read a word in two's complement. Source: the RISC-V unprivileged manual, chapter RV32I
-- ("Integer Computational Instructions", "Conditional Branches", "Load and Store Instructions") and
-- the chapter on the extension M.
use Rattle.std.specs.Prelude.{◌≡◌, ◌<◌, ℕ, ℤ, pos, ◌+◌, ◌-◌, ◌*◌, ◌/◌, ◌%◌, ◌^◌, ◌*ℤ◌, Bool, not, nat_eq, nat_lt, int_lt, bit_and, bit_or, bit_xor, if◌then◌else◌}
use Rattle.std.specs.Int.{int_shr}
use Rattle.numbers.specs.Numbers.{sum, difference, product, quotient, remainder, less}
use Rattle.rv32_isa.specs.Bits.{signed_part}
use Rattle.rv32_isa.specs.declared.instr.BranchKind.{BranchKind}
use Rattle.rv32_isa.specs.declared.instr.BranchKind.TheVariants.{Beq, Bne, Blt, Bge, Bltu, Bgeu}
use Rattle.rv32_isa.specs.declared.instr.OpKind.{OpKind}
use Rattle.rv32_isa.specs.declared.instr.OpKind.TheVariants.{Add, Sll, Slt, Sltu, Xor, Srl, Or, And, Sub, Sra, Mul, Mulh, Mulhsu, Mulhu, Div, Divu, Rem, Remu}
use Rattle.rv32_isa.specs.declared.instr.ImmKind.{ImmKind}
use Rattle.rv32_isa.specs.declared.instr.ImmKind.TheVariants.{Addi, Slti, Sltiu, Xori, Ori, Andi}
use Rattle.rv32_isa.specs.declared.instr.ShiftKind.{ShiftKind}
use Rattle.rv32_isa.specs.declared.instr.ShiftKind.TheVariants.{Slli, Srli, Srai}
use Rattle.rv32_isa.specs.declared.instr.LoadKind.{LoadKind}
use Rattle.rv32_isa.specs.declared.instr.LoadKind.TheVariants.{Lb, Lh, Lw, Lbu, Lhu}
use Rattle.rv32_isa.specs.declared.instr.StoreKind.{StoreKind}
use Rattle.rv32_isa.specs.declared.instr.StoreKind.TheVariants.{Sb, Sh, Sw}
-- the number of a word, and the word of a number
pub use Rattle.numbers.specs.Numbers.{signed, pattern}

-- the word of a truth: 1 or 0
abbrev pub bit : Bool → ℕ
bit b = if b then 1 else 0

-- sums and differences wrap
abbrev pub plus : ℕ → ℕ → ℕ
plus a b = (a + b) % 2 ^ 32

abbrev pub minus : ℕ → ℕ → ℕ
minus a b = (a + (2 ^ 32 - b)) % 2 ^ 32

abbrev pub less_signed : ℕ → ℕ → Bool
less_signed a b = int_lt (signed a) (signed b)

-- `int_shr` divides by a power of two and rounds down
abbrev pub shift_right_signed : ℕ → ℕ → ℕ
shift_right_signed a k = pattern (int_shr (signed a) k)

-- the upper 32 of the 64 bits of a product
abbrev pub high_half : ℤ → ℕ
high_half z = pattern (int_shr z 32)

-- the word's highest bit is its sign, and two words are each other's negative whose sum is a
-- multiple of 2 ^ 32
abbrev pub is_negative : ℕ → Bool
is_negative a = not (nat_lt a (2 ^ 31))

abbrev pub negated : ℕ → ℕ
negated a = (2 ^ 32 - a) % 2 ^ 32

-- a word without its sign, and with one
abbrev pub magnitude : ℕ → ℕ
magnitude a = if is_negative a then 2 ^ 32 - a else a

abbrev pub with_sign : Bool → ℕ → ℕ
with_sign negative n = if negative then negated n else n

abbrev pub just_one : Bool → Bool → Bool
just_one a b = if a then not b else b

-- Division rounds towards zero: the quotient is negative where just one of the two is, and the
-- remainder where the dividend is. By zero the quotient has all bits set and the remainder is the
-- dividend. The least number by -1 is itself, as 2 ^ 31 is its own negative.
abbrev pub divided : ℕ → ℕ → ℕ
divided a b =
    if nat_eq b 0 then 2 ^ 32 - 1
    else with_sign (just_one (is_negative a) (is_negative b)) (magnitude a / magnitude b)

abbrev pub left_over : ℕ → ℕ → ℕ
left_over a b = if nat_eq b 0 then a else with_sign (is_negative a) (magnitude a % magnitude b)

abbrev pub op_value : OpKind → ℕ → ℕ → ℕ
op_value Add a b = plus a b
op_value Sub a b = minus a b
op_value Sll a b = (a * 2 ^ (b % 32)) % 2 ^ 32
op_value Slt a b = bit (less_signed a b)
op_value Sltu a b = bit (nat_lt a b)
op_value Xor a b = bit_xor a b
op_value Srl a b = a / 2 ^ (b % 32)
op_value Sra a b = shift_right_signed a (b % 32)
op_value Or a b = bit_or a b
op_value And a b = bit_and a b
op_value Mul a b = (a * b) % 2 ^ 32
op_value Mulh a b = high_half (signed a *ℤ signed b)
op_value Mulhsu a b = high_half (signed a *ℤ pos b)
op_value Mulhu a b = a * b / 2 ^ 32
op_value Div a b = divided a b
op_value Divu a b = if nat_eq b 0 then 2 ^ 32 - 1 else a / b
op_value Rem a b = left_over a b
op_value Remu a b = if nat_eq b 0 then a else a % b

abbrev pub imm_value : ImmKind → ℕ → ℕ → ℕ
imm_value Addi a b = plus a b
imm_value Slti a b = bit (less_signed a b)
imm_value Sltiu a b = bit (nat_lt a b)
imm_value Xori a b = bit_xor a b
imm_value Ori a b = bit_or a b
imm_value Andi a b = bit_and a b

abbrev pub shift_value : ShiftKind → ℕ → ℕ → ℕ
shift_value Slli a k = (a * 2 ^ k) % 2 ^ 32
shift_value Srli a k = a / 2 ^ k
shift_value Srai a k = shift_right_signed a k

abbrev pub is_taken : BranchKind → ℕ → ℕ → Bool
is_taken Beq a b = nat_eq a b
is_taken Bne a b = not (nat_eq a b)
is_taken Blt a b = less_signed a b
is_taken Bge a b = not (less_signed a b)
is_taken Bltu a b = nat_lt a b
is_taken Bgeu a b = not (nat_lt a b)

-- how many bytes a load or a store touches
abbrev pub load_size : LoadKind → ℕ
load_size Lb = 1
load_size Lh = 2
load_size Lw = 4
load_size Lbu = 1
load_size Lhu = 2

abbrev pub store_size : StoreKind → ℕ
store_size Sb = 1
store_size Sh = 2
store_size Sw = 4

-- the word that a load makes of the number it reads: extended by its sign, but by zeros in the
-- unsigned loads
abbrev pub load_value : LoadKind → ℕ → ℕ
load_value Lb v = pattern (signed_part 256 v)
load_value Lh v = pattern (signed_part 65536 v)
load_value Lw v = v
load_value Lbu v = v
load_value Lhu v = v

-- ---- law: of the numbers of two words an operation gives the word of the number that every
-- language here gives

abbrev pub Computes : OpKind → (ℤ → ℤ → ℤ) → Type 0
Computes kind f =
    (a b : ℕ) → a < 2 ^ 32 → b < 2 ^ 32 → op_value kind a b ≡ pattern (f (signed a) (signed b))

pub record MachineOpsMatchSourceOps : Type 0 where
  pub add_is : Computes Add sum
  pub sub_is : Computes Sub difference
  pub mul_is : Computes Mul product
  pub div_is : Computes Div quotient
  pub rem_is : Computes Rem remainder
  pub slt_is : Computes Slt less
