-- Kinds of bytes. Letters are those of ASCII.
use Rattle.std.specs.Prelude.{ℕ, Bool, nat_lt, ◌==◌, ◌&&◌, ◌||◌, not}

-- a space, a tab, a line feed or a carriage return
abbrev pub is_space : ℕ → Bool
is_space b = b == 32 || b == 9 || b == 10 || b == 13

-- a lower-case letter or `_`
abbrev pub is_lower : ℕ → Bool
is_lower b = (nat_lt 96 b && nat_lt b 123) || b == 95

abbrev pub is_upper : ℕ → Bool
is_upper b = nat_lt 64 b && nat_lt b 91

abbrev pub is_digit : ℕ → Bool
is_digit b = nat_lt 47 b && nat_lt b 58

-- a letter, a digit, `_` or `'`
abbrev pub is_inner : ℕ → Bool
is_inner b = is_lower b || is_upper b || is_digit b || b == 39

-- any byte but a line feed
abbrev pub is_in_line : ℕ → Bool
is_in_line b = not (b == 10)
