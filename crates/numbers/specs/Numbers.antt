-- The numbers of every language here, -2147483648 to 2147483647, and the seven operations on them.
-- Source for quotients and remainders: the RISC-V unprivileged manual, chapter on the extension M.
use Rattle.std.specs.Prelude.{ℕ, ℤ, pos, negsuc, Bool, false, if◌then◌else◌, int_div, int_rem, ◌==◌, ◌+ℤ◌, ◌-ℤ◌, ◌*ℤ◌, int_lt, ◌-◌, ◌^◌, suc, nat_lt, cond, unsigned_abs}
use Rattle.std.specs.Int.{int_wrap, w32, int_rem_euclid}

-- k modulo 2 ^ 32, as the number in that range
abbrev pub wrap : ℤ → ℤ
wrap k = int_wrap w32 k

-- whether two numbers are one
abbrev pub same_number : ℤ → ℤ → Bool
same_number (pos a) (pos b) = a == b
same_number (pos a) (negsuc b) = false
same_number (negsuc a) (pos b) = false
same_number (negsuc a) (negsuc b) = a == b

-- the number of a truth: 1 or 0
abbrev pub bool_as_number : Bool → ℤ
bool_as_number b = if b then pos 1 else pos 0

abbrev pub sum : ℤ → ℤ → ℤ
sum a b = wrap (a +ℤ b)

abbrev pub difference : ℤ → ℤ → ℤ
difference a b = wrap (a -ℤ b)

abbrev pub product : ℤ → ℤ → ℤ
product a b = wrap (a *ℤ b)

-- rounded towards zero; -1 where the divisor is 0
abbrev pub quotient : ℤ → ℤ → ℤ
quotient a b = if same_number b (pos 0) then negsuc 0 else wrap (int_div a b)

-- with the sign of the dividend; the dividend where the divisor is 0
abbrev pub remainder : ℤ → ℤ → ℤ
remainder a b = if same_number b (pos 0) then a else int_rem a b

-- whether two numbers are one, as a number
abbrev pub equal : ℤ → ℤ → ℤ
equal a b = bool_as_number (same_number a b)

-- whether the first is the smaller one, as a number
abbrev pub less : ℤ → ℤ → ℤ
less a b = bool_as_number (int_lt a b)

-- the low eight bits
abbrev pub low_byte : ℤ → ℕ
low_byte k = unsigned_abs (int_rem_euclid k (pos 256))

-- the number of a word of 32 bits, and the word of a number, in two's complement
abbrev pub signed : ℕ → ℤ
signed word = cond (nat_lt word (2 ^ 31)) (pos word) (negsuc (2 ^ 32 - suc word))

abbrev pub pattern : ℤ → ℕ
pattern (pos k) = k
pattern (negsuc k) = 2 ^ 32 - suc k
