-- The decimal text of an integer is a token of it.
use Rattle.std.proofs.Common.{◌≡◌, ℕ, suc, ◌+◌, ◌*◌, ◌-◌, ◌/◌, ◌%◌, ◌<◌, ◌≤◌, ◌^◌, ℤ, pos, negsuc, Bool, true, false, eqb, List, [], ◌∷◌, ◌++◌, Some, refl, sym, ap, ◌∙◌, arith, rules}
use Rattle.std.specs.Prelude.{decimal, neg_ℤ, ◌&&◌, ◌||◌, nat_lt}
use Rattle.std.specs.Fmt.{signed_decimal}
use Rattle.std.proofs.lemmas.Bool.{lt-ltb, le-ltb, ltb-true}
use Rattle.std.proofs.lemmas.Fmt.{decimal_by_steps}
use Rattle.std.proofs.lemmas.Int.{ints}
use Rattle.seq.proofs.Truth.{and_parts, and_from}
use Rattle.core_reader.specs.declared.look.TokenKind.TheVariants.{Digits}
use Rattle.core_reader.specs.Bytes.{is_lower, is_upper, is_digit}
use Rattle.core_reader.specs.Tokens.{every, kind_of}
use Rattle.core_reader.specs.Words.{digits_from, has_minus, written_number, IsInRange}

neither : (b c : Bool) → b ≡ false → c ≡ false → (b || c) ≡ false
neither true c e f = absurd cc
neither false c e f = f

other_than : (b n : ℕ) → b < n → eqb b n ≡ false
other_than b n l = search (rules, arith)

bounds : (b : ℕ) → is_digit b ≡ true → (47 < b) × (b < 58)
bounds b e = let h = and_parts (nat_lt 47 b) (nat_lt b 58) e
    in (ltb-true 47 b h.0, ltb-true b 58 h.1)

is_digit_at : (m : ℕ) → m < 10 → is_digit (48 + m) ≡ true
is_digit_at m l = and_from (nat_lt 47 (48 + m)) (nat_lt (48 + m) 58)
    (lt-ltb 47 (48 + m) (omega arith)) (lt-ltb (48 + m) 58 (omega arith))

no_lower : (b : ℕ) → is_digit b ≡ true → is_lower b ≡ false
no_lower b e =
    let l = (bounds b e).1 in
    neither (nat_lt 96 b && nat_lt b 123) (eqb b 95) (rw (le-ltb 96 b (omega (arith, l))) refl)
    (other_than b 95 (omega (arith, l)))

no_upper : (b : ℕ) → is_digit b ≡ true → is_upper b ≡ false
no_upper b e = let l = (bounds b e).1 in rw (le-ltb 64 b (omega (arith, l))) refl

no_minus : (b : ℕ) → is_digit b ≡ true → eqb b 45 ≡ false
no_minus b e = let l = (bounds b e).0 in search (rules, arith)

-- a digit and digits, which stand for a number
record IsDecimal (n : ℕ) (ds : List ℕ) : Type 0 where
  pub first : ℕ
  pub others : List ℕ
  pub whole : ds ≡ first ∷ others
  pub digit : is_digit first ≡ true
  pub digits : every is_digit others ≡ true
  pub worth : digits_from 0 ds ≡ n

every_last : (p : ℕ → Bool) (xs : List ℕ) (y : ℕ) → every p xs ≡ true → p y ≡ true
    → every p (xs ++ y ∷ []) ≡ true
every_last p [] y e f = and_from (p y) true f refl
every_last p (x ∷ xs) y e f = let h = and_parts (p x) (every p xs) e
    in and_from (p x) (every p (xs ++ y ∷ [])) h.0 (every_last p xs y h.1 f)

worth_last : (n : ℕ) (xs : List ℕ) (y : ℕ) → digits_from n (xs ++ y ∷ []) ≡ 10 * digits_from n xs +
    (y - 48)
worth_last n [] y = refl
worth_last n (x ∷ xs) y = worth_last (10 * n + (x - 48)) xs y

one_digit : (m : ℕ) → m < 10 → IsDecimal m ((48 + m) ∷ [])
one_digit m l = record {
  first = 48 + m;
  others = [];
  whole = refl;
  digit = is_digit_at m l;
  digits = refl;
  worth
      = omega arith;
}

more_digits : (m : ℕ) (ds : List ℕ) → 10 ≤ m → IsDecimal (m / 10) ds
    → IsDecimal m (ds ++ (48 + m % 10) ∷ [])
more_digits m ds l h =
    let c = 48 + m % 10 in
    record {
      first = h.first;
      others = h.others ++ c ∷ [];
      whole = ap (λ w. w ++ c ∷ []) h.whole;
      digit = h.digit;
      digits = every_last is_digit h.others c h.digits (is_digit_at (m % 10) (omega arith));
      worth = let e = worth_last 0 ds c in omega (arith, e, h.worth);
    }

is_decimal : (n : ℕ) → n < 2 ^ 64 → IsDecimal n (decimal n)
is_decimal n l = decimal_by_steps IsDecimal one_digit more_digits n l

digits_kind : (n : ℕ) (ds : List ℕ) → IsDecimal n ds → kind_of ds ≡ Some Digits
digits_kind n ds h = ap kind_of h.whole ∙
    rw (no_lower h.first h.digit, no_upper h.first h.digit, h.digit, h.digits) refl

minus_kind : (n : ℕ) (ds : List ℕ) → IsDecimal n ds → kind_of (45 ∷ ds) ≡ Some Digits
minus_kind n ds h = ap (λ w. kind_of (45 ∷ w)) h.whole ∙ by
    (other_than h.first 62 (omega (arith, (bounds h.first h.digit).1)))
  where
    by : eqb h.first 62 ≡ false → kind_of (45 ∷ h.first ∷ h.others) ≡ Some Digits
    by e = rw (e, h.digit, h.digits) refl

-- the text of an integer is a token, which says that integer
pub record IsNumeral (k : ℤ) (w : List ℕ) : Type 0 where
  pub kind : kind_of w ≡ Some Digits
  pub number : written_number w ≡ k

plain_number : (n : ℕ) (ds : List ℕ) → IsDecimal n ds → (has_minus ds ≡ false)
    × (written_number ds ≡ pos n)
plain_number n ds h =
    let minus = no_minus h.first h.digit in (
      ap has_minus h.whole ∙ minus,
      ap written_number h.whole ∙ rw minus
          (ap (λ w. pos (digits_from 0 w)) (sym h.whole) ∙ ap pos h.worth),
    )

pub count_numeral : (n : ℕ) → n < 2 ^ 64 → IsNumeral (pos n) (decimal n)
    × (has_minus (decimal n) ≡ false)
count_numeral n l =
    let d = is_decimal n l in
    let p = plain_number n (decimal n) d in
    (record { kind = digits_kind n (decimal n) d; number = p.1 }, p.0)

pub numeral : (k : ℤ) → IsInRange k → IsNumeral k (signed_decimal k)
numeral (pos n) r = (count_numeral n (omega (arith, ints, r.1))).0
numeral (negsuc n) r =
    let d = is_decimal (suc n) (omega (arith, ints, r.0)) in
    record {
      kind = minus_kind (suc n) (decimal (suc n)) d;
      number
          = ap (λ m. neg_ℤ (pos m)) d.worth;
    }
