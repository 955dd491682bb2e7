-- The quotient and the remainder of two words, as numbers and as the code computes them.
use Rattle.std.proofs.Common.{◌≡◌, ℕ, zero, suc, ◌+◌, ◌-◌, ◌*◌, ◌/◌, ◌%◌, ◌^◌, ◌<◌, ◌≤◌, ℤ, pos, negsuc, unsigned_abs, int_div, int_rem, div-le_self, refl, sym, ap, ◌∙◌, arith, w32, to_z, of_z, FitsSigned, true, false}
use Rattle.std.proofs.lemmas.Int.{of_z-to_z, to_z-of_z, wrapping_add-bits, wrapping_sub-bits, wrapping_mul-bits}
use Rattle.std.proofs.Math.Nat.{mod-le}
use Rattle.std.proofs.lemmas.Bool.{ltb-true, ltb-false}
use Rattle.std.proofs.lemmas.Bool.Decides.{nat_tests}
use Rattle.std.specs.Prelude.{neg_ℤ, Bool, not, cond, nat_lt, int_lt, if◌then◌else◌}
use Rattle.std.specs.Int.{int_wrap, int_wrapping_div}
use Rattle.numbers.specs.Numbers.{wrap, bool_as_number, quotient, remainder, signed, pattern, same_number}
use Rattle.rv32_machine.specs.Arithmetic.{bit, MachineOpsMatchSourceOps, is_negative, magnitude, just_one, with_sign, negated, divided, left_over}
use Rattle.seq.proofs.Order.{no_zero}

-- to wrap a number of few bits is to read it as a word
wrap_is : (z : ℤ) → unsigned_abs z ≤ 2 ^ 31 → wrap z ≡ to_z w32 (of_z w32 z)
unfolding int_wrap
wrap_is (pos n) h = let e : n % 2 ^ 32 ≡ n = omega arith in ap (to_z w32) e
wrap_is (negsuc n) h = let e : 2 ^ 32 - 1 - n % 2 ^ 32 ≡ 2 ^ 32 - suc n = omega arith
    in ap (to_z w32) e

-- the word of a number with a sign
positive_word : (n : ℕ) → n ≤ 2 ^ 31 → n ≡ pattern (wrap (pos n))
positive_word n h = sym (ap pattern (wrap_is (pos n) h) ∙ of_z-to_z w32 n (omega (arith, h)))

negative_word : (n : ℕ) → n ≤ 2 ^ 31 → negated n ≡ pattern (wrap (neg_ℤ (pos n)))
negative_word zero h = positive_word zero (omega arith)
negative_word (suc n) h =
    let small : (2 ^ 32 - suc n) % 2 ^ 32 ≡ 2 ^ 32 - suc n = omega (arith, h) in
    small ∙ sym
    (ap pattern (wrap_is (negsuc n) h) ∙ of_z-to_z w32 (2 ^ 32 - suc n) (omega (arith, h)))

negative_pattern : (n : ℕ) → n ≤ 2 ^ 31 → negated n ≡ pattern (neg_ℤ (pos n))
negative_pattern zero h = refl
negative_pattern (suc n) h = omega (arith, h)

-- the division of two words, by their signs, where the divisor is not 0
module _ (a b : ℕ) (ha : a < 2 ^ 32) (hb : b < 2 ^ 32) (some : 0 < b) where
  whole_a : suc (2 ^ 32 - suc a) ≡ 2 ^ 32 - a
  whole_a = omega (arith, ha)

  whole_b : suc (2 ^ 32 - suc b) ≡ 2 ^ 32 - b
  whole_b = omega (arith, hb)

  abbrev number : Bool → ℕ → ℤ
  number below n = cond below (pos n) (negsuc (2 ^ 32 - suc n))

  abbrev size : Bool → ℕ → ℕ
  size below n = if not below then 2 ^ 32 - n else n

  small_a : (t : Bool) → nat_lt a (2 ^ 31) ≡ t → size t a ≤ 2 ^ 31
  small_a true e = omega (arith, ltb-true a (2 ^ 31) e)
  small_a false e = omega (arith, ltb-false a (2 ^ 31) e)

  divided_small : (m n : ℕ) → m ≤ 2 ^ 31 → m / n ≤ 2 ^ 31
  divided_small m n h = omega (arith, div-le_self m n, h)

  over_small : (m n : ℕ) → m ≤ 2 ^ 31 → m % n ≤ 2 ^ 31
  over_small m n h = omega (arith, mod-le m n, h)

  quotient_by : (t u : Bool) → nat_lt a (2 ^ 31) ≡ t
      → with_sign (just_one (not t) (not u)) (size t a / size u b) ≡ pattern
      (wrap (int_div (number t a) (number u b)))
  quotient_by true true e = positive_word (a / b) (divided_small a b (small_a true e))
  quotient_by true false e =
      ap (λ n. negated (a / n)) (sym whole_b) ∙ negative_word (a / suc (2 ^ 32 - suc b))
      (divided_small a _ (small_a true e))
  quotient_by false true e =
      ap (λ n. negated (n / b)) (sym whole_a) ∙ negative_word (suc (2 ^ 32 - suc a) / b)
      (divided_small _ b (omega (arith, whole_a, small_a false e)))
  quotient_by false false e =
      (λ i. sym whole_a i / sym whole_b i)
      ∙ positive_word (suc (2 ^ 32 - suc a) / suc (2 ^ 32 - suc b))
      (divided_small _ _ (omega (arith, whole_a, small_a false e)))

  remainder_by : (t u : Bool) → nat_lt a (2 ^ 31) ≡ t
      → with_sign (not t) (size t a % size u b) ≡ pattern (int_rem (number t a) (number u b))
  remainder_by true true e = refl
  remainder_by true false e = ap (λ n. a % n) (sym whole_b)
  remainder_by false true e =
      ap (λ n. negated (n % b)) (sym whole_a) ∙ negative_pattern (suc (2 ^ 32 - suc a) % b)
      (over_small _ b (omega (arith, whole_a, small_a false e)))
  remainder_by false false e =
      (λ i. negated (sym whole_a i % sym whole_b i))
      ∙ negative_pattern (suc (2 ^ 32 - suc a) % suc (2 ^ 32 - suc b))
      (over_small _ _ (omega (arith, whole_a, small_a false e)))

not_zero : (b : ℕ) → 0 < b → same_number (signed b) (pos 0) ≡ false
not_zero b some = by_sign (nat_lt b (2 ^ 31))
  where
    by_sign : (below : Bool) → same_number (cond below (pos b) (negsuc (2 ^ 32 - suc b))) (pos 0) ≡
        false
    by_sign true = grind (arith, nat_tests)
    by_sign false = refl

pub quotient_agrees : (a b : ℕ) → a < 2 ^ 32 → b < 2 ^ 32
    → divided a b ≡ pattern (quotient (signed a) (signed b))
quotient_agrees a zero ha hb = refl
quotient_agrees a (suc b) ha hb =
    ap (λ t. if t then 2 ^ 32 - 1 else with_sign (just_one (is_negative a) (is_negative (suc b)))
    (magnitude a / magnitude (suc b))) (no_zero b) ∙
    quotient_by a (suc b) ha hb (omega arith) (nat_lt a (2 ^ 31)) (nat_lt (suc b) (2 ^ 31)) refl
    ∙ ap (λ t. pattern (if t then negsuc 0 else wrap (int_div (signed a) (signed (suc b)))))
    (sym (not_zero (suc b) (omega arith)))

pub remainder_agrees : (a b : ℕ) → a < 2 ^ 32 → b < 2 ^ 32
    → left_over a b ≡ pattern (remainder (signed a) (signed b))
remainder_agrees a zero ha hb = sym (of_z-to_z w32 a ha)
remainder_agrees a (suc b) ha hb =
    ap (λ t. if t then a else with_sign (is_negative a) (magnitude a % magnitude (suc b)))
    (no_zero b) ∙
    remainder_by a (suc b) ha hb (omega arith) (nat_lt a (2 ^ 31)) (nat_lt (suc b) (2 ^ 31)) refl
    ∙ ap (λ t. pattern (if t then signed a else int_rem (signed a) (signed (suc b))))
    (sym (not_zero (suc b) (omega arith)))

-- ---- the code

negated_small : (n : ℕ) → unsigned_abs (neg_ℤ (pos n)) ≡ n
negated_small zero = refl
negated_small (suc n) = refl

-- a quotient is no larger than the dividend
quotient_small : (x y : ℤ) (m : ℕ) → unsigned_abs x ≤ m → unsigned_abs (int_div x y) ≤ m
quotient_small (pos a) (pos b) m h = omega (arith, div-le_self a b)
quotient_small (pos a) (negsuc b) m h = omega
    (arith, div-le_self a (suc b), negated_small (a / suc b))
quotient_small (negsuc a) (pos b) m h = omega
    (arith, div-le_self (suc a) b, negated_small (suc a / b))
quotient_small (negsuc a) (negsuc b) m h = omega (arith, div-le_self (suc a) (suc b))

signed_small : (a : ℕ) → a < 2 ^ 32 → unsigned_abs (signed a) ≤ 2 ^ 31
signed_small a h = grind (arith, nat_tests)

-- the code's casts on the way
back : (n : ℕ) (z : ℤ) → n < 2 ^ 32 → z ≡ to_z w32 n → to_z w32 (of_z w32 z) ≡ to_z w32 n
back n z h e = ap (λ v. to_z w32 (of_z w32 v)) e ∙ ap (to_z w32) (of_z-to_z w32 n h)

pub quotient_code : (a b : ℕ) (x y q : ℤ) (r : ℕ) → a < 2 ^ 32 → b < 2 ^ 32 → 0 < b → x ≡ to_z w32 a
    → y ≡ to_z w32 b → q ≡ int_wrapping_div w32 (to_z w32 (of_z w32 x)) (to_z w32 (of_z w32 y))
    → r ≡ of_z w32 (to_z w32 (of_z w32 q)) → FitsSigned w32 q → r ≡ divided a b
quotient_code a b x y q r ha hb some ex ey eq er fits =
    let z = int_div (signed a) (signed b) in
    let divides : q ≡ int_wrapping_div w32 (signed a) (signed b) =
    eq ∙ ap (λ v. int_wrapping_div w32 v (to_z w32 (of_z w32 y))) (back a x ha ex) ∙ ap
    (λ v. int_wrapping_div w32 (to_z w32 a) v) (back b y hb ey) in
    let word : q ≡ wrap z = divides ∙ sym
    (wrap_is z (quotient_small (signed a) (signed b) (2 ^ 31) (signed_small a ha))) in
    let chosen : quotient (signed a) (signed b) ≡ wrap z
    = ap (λ t. if t then negsuc 0 else wrap z) (not_zero b some) in
    er ∙ ap (of_z w32) (to_z-of_z w32 q fits) ∙ ap pattern (word ∙ sym chosen) ∙ sym
    (quotient_agrees a b ha hb)

-- ---- the other operations

pub operations_agree : MachineOpsMatchSourceOps
operations_agree = record {
  add_is = λ a b ha hb. sym
      (ap pattern (sym (wrapping_add-bits w32 a b ha hb)) ∙ of_z-to_z w32 ((a + b) % 2 ^ 32)
      (omega arith));
  sub_is = λ a b ha hb. sym
      (ap pattern (sym (wrapping_sub-bits w32 a b ha hb)) ∙ of_z-to_z w32
      ((a + (2 ^ 32 - b)) % 2 ^ 32) (omega arith));
  mul_is = λ a b ha hb. sym
      (ap pattern (sym (wrapping_mul-bits w32 a b ha hb)) ∙ of_z-to_z w32 ((a * b) % 2 ^ 32)
      (below (a * b)));
  div_is = quotient_agrees;
  rem_is = remainder_agrees;
  slt_is = λ a b ha hb. truth_word (int_lt (signed a) (signed b));
}
  where
    below : (n : ℕ) → n % 2 ^ 32 < 2 ^ 32
    below n = omega arith

    truth_word : (t : Bool) → bit t ≡ pattern (bool_as_number t)
    truth_word true = refl
    truth_word false = refl
