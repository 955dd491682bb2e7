-- How often a number stands in a list, and whether it does.
use Rattle.std.proofs.Common.{[], Bool, cond, ℕ, List, arith, ◌++◌, ◌+◌, ◌∷◌, ◌≡◌, false, nat_eq, refl, true, ◌≢◌, ap, ◌≤◌, inl, inr, ◌⊎◌, subst, length, suc, zero, sym, ◌∙◌}
use Rattle.seq.specs.Lists.{times, is_among, numbers_from}
use Rattle.std.proofs.lemmas.Bool.Decides.{nat_tests}
use Rattle.std.proofs.lemmas.Bool.{eq-eqb}
use Rattle.std.specs.Prelude.{◌||◌}
use Rattle.std.proofs.lemmas.Grind.{common_steps}
use Rattle.seq.proofs.Truth.{or_left, or_right, neither_left, neither_right}

-- one where the test holds
abbrev pub counts : Bool → ℕ
counts b = cond b 1 0

pub times_append : (x : ℕ) (xs ys : List ℕ) → times x (xs ++ ys) ≡ times x xs + times x ys
times_append x [] ys = omega arith
times_append x (y ∷ xs) ys = let h : times x (xs ++ ys) ≡ times x xs + times x ys
    = times_append x xs ys in omega arith

pub none_at : (x y : ℕ) → x ≢ y → counts (nat_eq x y) ≡ 0
none_at x y h = go (nat_eq x y) refl
  where
    go : (b : Bool) → nat_eq x y ≡ b → counts b ≡ 0
    go true q = let e : x ≡ y = grind (arith, nat_tests) in absurd (h e)
    go false q = refl

pub one_at : (x : ℕ) → counts (nat_eq x x) ≡ 1
one_at x = let h : nat_eq x x ≡ true = grind (arith, nat_tests) in ap counts h

-- a number that stands nowhere in two lists stands in neither
pub times_left : (y : ℕ) (xs ys : List ℕ) → times y (xs ++ ys) ≡ 0 → times y xs ≡ 0
times_left y xs ys h = let e : times y (xs ++ ys) ≡ times y xs + times y ys = times_append y xs ys
    in omega arith

pub times_right : (y : ℕ) (xs ys : List ℕ) → times y (xs ++ ys) ≡ 0 → times y ys ≡ 0
times_right y xs ys h = let e : times y (xs ++ ys) ≡ times y xs + times y ys = times_append y xs ys
    in omega arith

pub times_fewer : (y : ℕ) (xs ys us vs : List ℕ) → times y xs ≤ times y us → times y ys ≤ times y vs
    → times y (xs ++ ys) ≤ times y (us ++ vs)
times_fewer y xs ys us vs h k = let e : times y (xs ++ ys) ≡ times y xs + times y ys
    = times_append y xs ys in let f : times y (us ++ vs) ≡ times y us + times y vs
    = times_append y us vs in omega (arith, e, f, h, k)

-- ---- whether it stands there

pub among_first : (x : ℕ) (xs : List ℕ) → is_among x (x ∷ xs) ≡ true
among_first x xs = ap (λ b. b || is_among x xs) (eq-eqb x x refl)

pub among_later : (z x : ℕ) (xs : List ℕ) → is_among z xs ≡ true → is_among z (x ∷ xs) ≡ true
among_later z x xs h = by (nat_eq z x)
  where
    by : (b : Bool) → (b || is_among z xs) ≡ true
    by true = refl
    by false = h

pub among_cases : (x y : ℕ) (ys : List ℕ) → is_among x (y ∷ ys) ≡ true → (x ≡ y)
    ⊎ (is_among x ys ≡ true)
among_cases x y ys h = go (nat_eq x y) refl
  where
    go : (b : Bool) → nat_eq x y ≡ b → (x ≡ y) ⊎ (is_among x ys ≡ true)
    go true e = inl (grind (arith, nat_tests))
    go false e = inr cc

pub among_all : (x : ℕ) (xs : List ℕ) → is_among x (xs ++ []) ≡ true → is_among x xs ≡ true
among_all x xs h = subst (λ l. is_among x l ≡ true) (end xs) h
  where
    end : (xs : List ℕ) → xs ++ [] ≡ xs
    end xs = grind (arith, common_steps)

pub among_append : (x : ℕ) (xs ys : List ℕ) → is_among x (xs ++ ys) ≡
    (is_among x xs || is_among x ys)
among_append x [] ys = refl
among_append x (y ∷ xs) ys = go (nat_eq x y) (among_append x xs ys)
  where
    go : (b : Bool) → is_among x (xs ++ ys) ≡ (is_among x xs || is_among x ys)
        → (b || is_among x (xs ++ ys)) ≡ ((b || is_among x xs) || is_among x ys)
    go true h = refl
    go false h = h

pub among_left : (x : ℕ) (xs ys : List ℕ) → is_among x xs ≡ true → is_among x (xs ++ ys) ≡ true
among_left x xs ys h = among_append x xs ys ∙ or_left (is_among x xs) (is_among x ys) h

pub among_right : (x : ℕ) (xs ys : List ℕ) → is_among x ys ≡ true → is_among x (xs ++ ys) ≡ true
among_right x xs ys h = among_append x xs ys ∙ or_right (is_among x xs) (is_among x ys) h

pub not_among_left : (x : ℕ) (xs ys : List ℕ) → is_among x (xs ++ ys) ≡ false
    → is_among x xs ≡ false
not_among_left x xs ys h = neither_left (is_among x xs) (is_among x ys)
    (sym (among_append x xs ys) ∙ h)

pub not_among_right : (x : ℕ) (xs ys : List ℕ) → is_among x (xs ++ ys) ≡ false
    → is_among x ys ≡ false
not_among_right x xs ys h = neither_right (is_among x xs) (is_among x ys)
    (sym (among_append x xs ys) ∙ h)

pub not_among_times : (x : ℕ) (xs : List ℕ) → is_among x xs ≡ false → times x xs ≡ 0
not_among_times x [] h = refl
not_among_times x (y ∷ ys) h = go (nat_eq x y) h (not_among_times x ys)
  where
    go : (b : Bool) → (b || is_among x ys) ≡ false → (is_among x ys ≡ false → times x ys ≡ 0)
        → counts b + times x ys ≡ 0
    go true h k = cc
    go false h k = let i : times x ys ≡ 0 = k h in omega (arith, i)

-- ---- numbers one after the other

pub length_numbers : (n c : ℕ) → length (numbers_from n c) ≡ c
length_numbers n zero = refl
length_numbers n (suc c) = ap suc (length_numbers (suc n) c)
