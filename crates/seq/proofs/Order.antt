-- Numbers that are compared.
use Rattle.std.proofs.Common.{◌≡◌, ◌≢◌, ℕ, ◌*◌, ◌<◌, ◌≤◌, zero, suc, Bool, true, false, refl, ap, inl, inr, ⊎_elim, arith}
use Rattle.std.specs.Prelude.{◌⊎◌, nat_eq, nat_lt}
use Rattle.std.proofs.lemmas.Bool.{ltb-true, ltb-false}
use Rattle.std.proofs.lemmas.Bool.Decides.{nat_tests}

pub eq_self : (n : ℕ) → nat_eq n n ≡ true
eq_self n = grind (arith, nat_tests)

pub eq_true : (m n : ℕ) → m ≡ n → nat_eq m n ≡ true
eq_true m n e = grind (arith, nat_tests)

pub eq_from : (m n : ℕ) → nat_eq m n ≡ true → m ≡ n
eq_from m n e = grind (arith, nat_tests)

pub eq_false : (m n : ℕ) → m ≢ n → nat_eq m n ≡ false
eq_false m n h = grind (arith, nat_tests)

pub differs_from : (m n : ℕ) → nat_eq m n ≡ false → m ≢ n
differs_from m n e = grind (arith, nat_tests)

pub eq_turned : (m n : ℕ) → nat_eq m n ≡ nat_eq n m
eq_turned m n = grind (arith, nat_tests)

pub lt_true : (m n : ℕ) → m < n → nat_lt m n ≡ true
lt_true m n h = grind (arith, nat_tests)

pub lt_from : (m n : ℕ) → nat_lt m n ≡ true → m < n
lt_from m n e = grind (arith, nat_tests)

pub lt_false : (m n : ℕ) → n ≤ m → nat_lt m n ≡ false
lt_false m n h = grind (arith, nat_tests)

pub le_from : (m n : ℕ) → nat_lt m n ≡ false → n ≤ m
le_from m n e = grind (arith, nat_tests)

pub lt_or_le : (m n : ℕ) → (m < n) ⊎ (n ≤ m)
lt_or_le m n = grind arith

pub le_or_lt : (m n : ℕ) → (m ≤ n) ⊎ (n < m)
le_or_lt m n = ⊎_elim (λ h. inr h) (λ h. inl h) (lt_or_le n m)

pub compared : (m n : ℕ) → (m < n) ⊎ ((m ≡ n) ⊎ (n < m))
compared m n = grind arith

pub same_or_not : (m n : ℕ) → (m ≡ n) ⊎ (m ≡ n → ⊥)
same_or_not zero zero = inl refl
same_or_not zero (suc n) = inr (λ e. cc)
same_or_not (suc m) zero = inr (λ e. cc)
same_or_not (suc m) (suc n) = ⊎_elim (λ e. inl (ap suc e)) (λ ne. inr (λ e. ne (omega (arith, e))))
    (same_or_not m n)

pub not_below : (m n : ℕ) → (m < n → ⊥) → n ≤ m
not_below m n h = on (nat_lt m n) refl
  where
    on : (b : Bool) → nat_lt m n ≡ b → n ≤ m
    on true e = absurd (h (ltb-true m n e))
    on false e = ltb-false m n e

pub more_times : (m n k : ℕ) → m ≤ n → m * k ≤ n * k
more_times zero n k h = omega arith
more_times (suc m) zero k h = absurd (omega (arith, h))
more_times (suc m) (suc n) k h = omega (arith, more_times m n k (omega (arith, h)))

pub no_zero : (b : ℕ) → nat_eq (suc b) 0 ≡ false
no_zero b = grind (arith, nat_tests)
