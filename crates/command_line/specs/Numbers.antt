-- The numbers of a command line.
use Rattle.std.specs.Prelude.{ℕ, ◌&&◌, Bool, List, length, Option, Some, None, if◌then◌else◌, nat_le}
use Rattle.std.specs.Str.{all_ascii_digits}
use Rattle.std.specs.Str.Parse.{digits_value}

-- 1 to 20 decimal digits
abbrev pub is_number : List ℕ → Bool
is_number text = nat_le 1 (length text) && (nat_le (length text) 20 && all_ascii_digits text)

-- the number that a text writes, where it lies in the range
abbrev pub number_within : (least most : ℕ) → List ℕ → Option ℕ
number_within least most text =
    let number = digits_value 10 text in
    if is_number text && (nat_le least number && nat_le number most) then Some number else None
