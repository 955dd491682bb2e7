-- What `parse` says of a text of digits.
use Rattle.std.proofs.Common.{◌≡◌, ℕ, ◌<◌, ◌≤◌, ◌^◌, ◌&&◌, Bool, true, false, List, length, Some, None, Result, Ok, Err, nat_le, refl, arith}
use Rattle.std.specs.Result.{OkIff, result_ok}
use Rattle.std.proofs.lemmas.Bool.Decides.{nat_tests}
use Rattle.std.proofs.lemmas.Str.Parse.{IsNumeralModel, numerals_by_value, tells_all_ascii_digits}
use Rattle.std.specs.Str.{all_ascii_digits}
use Rattle.std.specs.Str.Parse.{digits_value}
use Rattle.command_line.specs.Numbers.{is_number, number_within}

pub digits : IsNumeralModel (λ text. all_ascii_digits text ≡ true) (digits_value 10)
digits = numerals_by_value _ tells_all_ascii_digits

-- the text writes a number of 64 bits
abbrev Fits64 : List ℕ → Type 0
Fits64 text = (all_ascii_digits text ≡ true) × (0 < length text) × (digits_value 10 text < 2 ^ 64)

abbrev InRange : (least most : ℕ) → List ℕ → Bool
InRange least most text = is_number text &&
    (nat_le least (digits_value 10 text) && nat_le (digits_value 10 text) most)

no_number : (least most : ℕ) (text : List ℕ) → most < 2 ^ 64 → ¬ (Fits64 text)
    → None ≡ number_within least most text
no_number least most text small none = by_test (InRange least most text) refl where
  by_test : (test : Bool) → InRange least most text ≡ test → None ≡ number_within least most text
  by_test true is = absurd
      (none (grind (arith, nat_tests), grind (arith, nat_tests), grind (arith, nat_tests)))
  by_test false is = rw is refl

-- a text that isn't read has no number
pub none_read : {E : Type 0} (least most : ℕ) (text : List ℕ) (read : Result ℕ E)
    → OkIff read (Fits64 text) (digits_value 10 text)
    → result_ok read ≡ None → most < 2 ^ 64 → None ≡ number_within least most text
none_read least most text (Ok number) gives is small = cc
none_read least most text (Err e) gives is small = no_number least most text small gives

-- one that is read as a number of the range has that number
pub number_read : {E : Type 0} (least most number : ℕ) (text : List ℕ) (read : Result ℕ E)
    → OkIff read (Fits64 text) (digits_value 10 text)
    → result_ok read ≡ Some number → least ≤ number → number ≤ most → length text ≤ 20
    → Some number ≡ number_within least most text
number_read least most number text (Ok n) gives is low high short =
    let same : n ≡ number = cc in
    grind (arith, nat_tests)
number_read least most number text (Err e) gives is low high short = cc
