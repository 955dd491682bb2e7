-- Numbers that stand once at most, and lie in an interval.
use Rattle.std.proofs.Common.{◌≡◌, ◌≢◌, ℕ, zero, suc, ◌+◌, ◌-◌, ◌*◌, ◌≤◌, ◌<◌, Bool, true, false, cond, nat_eq, nat_lt, refl, sym, ◌∙◌, arith, eqb-true}
use Rattle.std.proofs.lemmas.Bool.{eq-eqb, ltb-true, ltb-false}
use mathlib.Core.Logic.{◌⊎◌, inl, inr}

-- how often y stands where x does
abbrev pub one_if : ℕ → ℕ → ℕ
one_if y x = cond (nat_eq y x) 1 0

pub record OneIf (y x : ℕ) : Type 0 where
  pub same : y ≡ x → one_if y x ≡ 1
  pub other : y ≢ x → one_if y x ≡ 0
  pub most : one_if y x ≤ 1

pub by_one : (y x : ℕ) → OneIf y x
by_one y x = by_test (nat_eq y x) refl
  where
    by_test : (b : Bool) → nat_eq y x ≡ b → OneIf y x
    by_test true e = record {
      same = λ h. rw e refl;
      other = λ h. absurd (h (eqb-true y x e));
      most
          = rw e (omega arith);
    }
    by_test false e = record {
      same = λ h. let t : true ≡ false = sym (eq-eqb y x h) ∙ e in absurd cc;
      other
          = λ h. rw e refl;
      most = rw e (omega arith);
    }

-- k is how often y stands among some of the numbers from `from` on and below `to`, each of which
-- stands there once at most
pub record Once (y from to k : ℕ) : Type 0 where
  pub before : y < from → k ≡ 0
  pub after : to ≤ y → k ≡ 0
  pub once : k ≤ 1

pub once_none : (y a b : ℕ) → Once y a b 0
once_none y a b = record { before = λ h. refl; after = λ h. refl; once = omega arith }

pub once_number : (y n : ℕ) → Once y n (n + 1) (one_if y n)
once_number y n =
    let o = by_one y n in
    record {
      before = λ h. o.other (λ e. omega (arith, e, h));
      after = λ h. o.other (λ e. omega (arith, e, h));
      once = o.most;
    }

pub once_both : {y a b c k l : ℕ} → a ≤ b → b ≤ c → Once y a b k → Once y b c l → Once y a c (k + l)
once_both {y} {a} {b} {c} {k} {l} d e f g = record {
  before = λ h. let i : k ≡ 0 = f.before h in let j : l ≡ 0 = g.before (omega (arith, h, d))
      in omega (arith, i, j);
  after = λ h. let i : k ≡ 0 = f.after (omega (arith, h, e)) in let j : l ≡ 0 = g.after h
      in omega (arith, i, j);
  once = by_test (nat_lt y b) refl;
}
  where
    by_test : (x : Bool) → nat_lt y b ≡ x → k + l ≤ 1
    by_test true t = let j : l ≡ 0 = g.before (ltb-true y b t) in omega (arith, j, f.once)
    by_test false t = let i : k ≡ 0 = f.after (ltb-false y b t) in omega (arith, i, g.once)

pub once_within : {y a b k : ℕ} (a' b' k' : ℕ) → a' ≤ a → b ≤ b' → k' ≤ k → Once y a b k
    → Once y a' b' k'
once_within {y} {a} {b} {k} a' b' k' d e f g = record {
  before = λ h. let i : k ≡ 0 = g.before (omega (arith, h, d)) in omega (arith, i, f);
  after = λ h. let i : k ≡ 0 = g.after (omega (arith, h, e)) in omega (arith, i, f);
  once = omega (arith, f, g.once);
}

-- a number is even or odd
pub record Half (d : ℕ) : Type 0 where
  pub half : ℕ
  pub is : (d ≡ 2 * half) ⊎ (d ≡ 2 * half + 1)

pub half_of : (d : ℕ) → Half d
half_of zero = record { half = 0; is = inl refl }
half_of (suc d) = next (half_of d)
  where
    by_parity : (h : ℕ) → (d ≡ 2 * h) ⊎ (d ≡ 2 * h + 1) → Half (suc d)
    by_parity h (inl e) = record { half = h; is = inr (omega (arith, e)) }
    by_parity h (inr e) = record { half = suc h; is = inl (omega (arith, e)) }

    next : Half d → Half (suc d)
    next h = by_parity h.half h.is

-- In a procedure whose variables begin with the number `base` the locals have every other number,
-- and the values between
-- operations have the numbers between these
module _ (base : ℕ) where
  -- k is how often y stands among the locals from n on and below m, and the values between
  -- operations from t on and below u
  pub record Placed (y t u n m k : ℕ) : Type 0 where
    pub values_order : t ≤ u
    pub locals_order : n ≤ m
    pub value : (i : ℕ) → y ≡ base + 2 * i + 1 → Once i t u k
    pub local : (x : ℕ) → y ≡ base + 2 * x → Once x n m k
    pub below : y < base → k ≡ 0

  pub placed_none : (y t n : ℕ) → Placed y t t n n 0
  placed_none y t n = record {
    values_order = omega arith;
    locals_order = omega arith;
    value = λ i e. once_none i t t;
    local = λ x e. once_none x n n;
    below = λ h. refl;
  }

  pub placed_value : (y t n : ℕ) → Placed y t (t + 1) n n (one_if y (base + 2 * t + 1))
  placed_value y t n =
      let o = by_one y (base + 2 * t + 1) in
      record {
        values_order = omega arith;
        locals_order = omega arith;
        value = λ i e. record {
          before = λ h. o.other (λ q. omega (arith, e, q, h));
          after = λ h. o.other (λ q. omega (arith, e, q, h));
          once = o.most;
        };
        local = λ x e. let z = o.other (λ q. omega (arith, e, q))
            in record { before = λ h. z; after = λ h. z; once = o.most };
        below = λ h. o.other (λ q. omega (arith, q, h));
      }

  pub placed_local : (y t n : ℕ) → Placed y t t n (n + 1) (one_if y (base + 2 * n))
  placed_local y t n =
      let o = by_one y (base + 2 * n) in
      record {
        values_order = omega arith;
        locals_order = omega arith;
        value = λ i e. let z = o.other (λ q. omega (arith, e, q))
            in record { before = λ h. z; after = λ h. z; once = o.most };
        local = λ x e. record {
          before = λ h. o.other (λ q. omega (arith, e, q, h));
          after = λ h. o.other (λ q. omega (arith, e, q, h));
          once = o.most;
        };
        below = λ h. o.other (λ q. omega (arith, q, h));
      }

  pub placed_both : {y t u v n m l k j : ℕ} → Placed y t u n m k → Placed y u v m l j
      → Placed y t v n l (k + j)
  placed_both a b = record {
    values_order = omega (arith, a.values_order, b.values_order);
    locals_order = omega (arith, a.locals_order, b.locals_order);
    value = λ i e. once_both a.values_order b.values_order (a.value i e) (b.value i e);
    local = λ x e. once_both a.locals_order b.locals_order (a.local x e) (b.local x e);
    below = λ h. omega (arith, a.below h, b.below h);
  }

  pub placed_within : {y t u n m k : ℕ} (t' u' n' m' k' : ℕ) → t' ≤ t → u ≤ u' → n' ≤ n → m ≤ m'
      → k' ≤ k → Placed y t u n m k → Placed y t' u' n' m' k'
  placed_within t' u' n' m' k' dt du dn dm dk a = record {
    values_order = omega (arith, a.values_order, dt, du);
    locals_order = omega (arith, a.locals_order, dn, dm);
    value = λ i e. once_within t' u' k' dt du dk (a.value i e);
    local = λ x e. once_within n' m' k' dn dm dk (a.local x e);
    below = λ h. omega (arith, a.below h, dk);
  }

  -- those of a whole procedure
  pub placed_once : {y u m k : ℕ} (span : ℕ) → 2 * u ≤ span → 2 * m ≤ span → Placed y 0 u 0 m k
      → Once y base (base + span) k
  placed_once {y} {u} {m} {k} span du dm a = record {
    before = a.below;
    after = λ h. after_is h (half_of (y - base));
    once = by_test (nat_lt y base) refl;
  }
    where
      after_by : base + span ≤ y → (h : ℕ) → (y - base ≡ 2 * h) ⊎ (y - base ≡ 2 * h + 1) → k ≡ 0
      after_by le h (inl e) = (a.local h (omega (arith, e, le))).after (omega (arith, e, le, dm))
      after_by le h (inr e) = (a.value h (omega (arith, e, le))).after (omega (arith, e, le, du))

      after_is : base + span ≤ y → Half (y - base) → k ≡ 0
      after_is le h = after_by le h.half h.is

      once_by : base ≤ y → (h : ℕ) → (y - base ≡ 2 * h) ⊎ (y - base ≡ 2 * h + 1) → k ≤ 1
      once_by le h (inl e) = (a.local h (omega (arith, e, le))).once
      once_by le h (inr e) = (a.value h (omega (arith, e, le))).once

      once_is : base ≤ y → Half (y - base) → k ≤ 1
      once_is le h = once_by le h.half h.is

      by_test : (x : Bool) → nat_lt y base ≡ x → k ≤ 1
      by_test true t = omega (arith, a.below (ltb-true y base t))
      by_test false t = once_is (ltb-false y base t) (half_of (y - base))
