-- Numbers that pass a test.
use Rattle.std.proofs.Common.{◌≡◌, ◌≢◌, ◌<◌, ◌≤◌, ◌+◌, ℕ, zero, suc, Bool, true, false, cond, nat_eq, List, [], ◌∷◌, refl, sym, ap, ◌∙◌, subst, arith}
use Rattle.std.specs.Prelude.{slice_index}
use Rattle.std.specs.List.{filter}
use Rattle.std.specs.List.Sorted.{IsStrictlyIncreasing}
use Rattle.std.proofs.lemmas.Bool.Decides.{nat_tests}
use Rattle.seq.specs.Lists.{AllOf, In, here, there, those}
use Rattle.seq.proofs.Order.{eq_from}
use Rattle.seq.proofs.Truth.{true_not_false, not_both}
use Rattle.seq.proofs.Member.{none_in}

pub those_have : (test : ℕ → Bool) (t : ℕ) → test t ≡ true → (i k : ℕ) → i ≤ t → t < i + k
    → In t (those test i k)
those_have test t e i zero le lt = absurd (omega arith)
those_have test t e i (suc k) le lt = on (test i) refl (nat_eq t i) refl
    (λ more. those_have test t e (suc i) k more (omega arith))
  where
    next : nat_eq t i ≡ false → suc i ≤ t
    next r = grind (arith, nat_tests, le)

    on : (b : Bool) → test i ≡ b → (c : Bool) → nat_eq t i ≡ c
        → (suc i ≤ t → In t (those test (suc i) k))
        → In t (cond b (i ∷ those test (suc i) k) (those test (suc i) k))
    on true q true r later = subst (λ j. In t (j ∷ those test (suc i) k)) (eq_from t i r) here
    on true q false r later = there (later (next r))
    on false q true r later = not_both (test i) (subst (λ j. test j ≡ true) (eq_from t i r) e) q
    on false q false r later = later (next r)

pub those_below : (test : ℕ → Bool) (i k n : ℕ) → i + k ≤ n → AllOf (λ t. t < n) (those test i k)
those_below test i zero n h = tt
those_below test i (suc k) n h = go (test i) (those_below test (suc i) k n (omega arith))
  where
    go : (b : Bool) → AllOf (λ t. t < n) (those test (suc i) k)
        → AllOf (λ t. t < n) (cond b (i ∷ those test (suc i) k) (those test (suc i) k))
    go true r = (omega arith, r)
    go false r = r

-- ---- those of a list

-- ascending from a number on
abbrev pub Ascends : ℕ → List ℕ → Type 0
Ascends i [] = Unit {0}
Ascends i (t ∷ ts) = (i ≤ t) × Ascends (suc t) ts

in_ascending : (i : ℕ) (ts : List ℕ) (t : ℕ) → Ascends i ts → In t ts → i ≤ t
in_ascending i [] t a h = none_in h
in_ascending i (x ∷ ts) t a here = a.0
in_ascending i (x ∷ ts) t a (there h) = let le : suc x ≤ t = in_ascending (suc x) ts t a.1 h
    in omega (arith, a.0)

later_in : (x t : ℕ) (ts : List ℕ) → In t (x ∷ ts) → t ≢ x → In t ts
later_in x t ts here ne = absurd (ne refl)
later_in x t ts (there h) ne = h

filter_none : (g : ℕ → Bool) (ts : List ℕ) → ((t : ℕ) → In t ts → g t ≡ false) → filter g ts ≡ []
filter_none g [] h = refl
filter_none g (t ∷ ts) h = rw (h t here) (filter_none g ts (λ s m. h s (there m)))

-- the numbers for which a test holds are those of a list that has them all and is ascending
pub those_filtered : (test g : ℕ → Bool) (n i k : ℕ) (ts : List ℕ) → n ≡ i + k → Ascends i ts
    → ((t : ℕ) → t < n → test t ≡ true → i ≤ t → In t ts)
    → ((t : ℕ) → In t ts → t < n → g t ≡ test t) → ((t : ℕ) → In t ts → n ≤ t → g t ≡ false)
    → those test i k ≡ filter g ts
those_filtered test g n i zero ts e a all agree past
    = sym (filter_none g ts
    (λ t m. past t m (let le : i ≤ t = in_ascending i ts t a m in omega arith)))
those_filtered test g n i (suc k) [] e a all agree past
    = go (test i) refl
    (those_filtered test g n (suc i) k [] (omega arith) tt (λ t lt h le. all t lt h (omega arith))
    agree past)
  where
    go : (b : Bool) → test i ≡ b → those test (suc i) k ≡ []
        → cond b (i ∷ those test (suc i) k) (those test (suc i) k) ≡ []
    go true h r = none_in (all i (omega arith) h (omega arith))
    go false h r = r
those_filtered test g n i (suc k) (x ∷ ts) e a all agree past =
    at (nat_eq i x) refl
    (λ same. those_filtered test g n (suc i) k ts (omega arith)
    (subst (λ y. Ascends (suc y) ts) (sym same) a.1)
    (λ t lt q le. later_in x t ts (all t lt q (omega arith)) (λ s. absurd (omega (arith, s))))
    (λ t m. agree t (there m)) (λ t m. past t (there m)))
    (λ ne. let le : i ≤ x = a.0 in those_filtered test g n (suc i) k (x ∷ ts) (omega arith)
    (omega arith, a.1) (λ t lt q low. all t lt q (omega arith)) agree past)
  where
    first : (b : Bool) → test i ≡ b → i ≡ x → those test (suc i) k ≡ filter g ts
        → cond b (i ∷ those test (suc i) k) (those test (suc i) k) ≡ filter g (x ∷ ts)
    first b h same rest =
        let this : g x ≡ b = agree x here (omega arith) ∙ ap test (sym same) ∙ h in
        rw (this, rest) (ap (λ y. cond b (y ∷ filter g ts) (filter g ts)) same)

    after : (b : Bool) → test i ≡ b → i ≢ x → those test (suc i) k ≡ filter g (x ∷ ts)
        → cond b (i ∷ those test (suc i) k) (those test (suc i) k) ≡ filter g (x ∷ ts)
    after true h ne rest = let le : i ≤ x = a.0 in let m
        = later_in x i ts (all i (omega arith) h (omega arith)) ne in let lt : suc x ≤ i
        = in_ascending (suc x) ts i a.1 m in absurd (omega arith)
    after false h ne rest = rest

    at : (b : Bool) → nat_eq i x ≡ b → (i ≡ x → those test (suc i) k ≡ filter g ts)
        → (i ≢ x → those test (suc i) k ≡ filter g (x ∷ ts))
        → cond (test i) (i ∷ those test (suc i) k) (those test (suc i) k) ≡ filter g (x ∷ ts)
    at true q same next = let s : i ≡ x = grind (arith, nat_tests) in first (test i) refl s (same s)
    at false q same next =
        let ne : i ≢ x = λ s. let z : nat_eq i x ≡ true = grind (arith, nat_tests)
        in true_not_false (sym z ∙ q) in
        after (test i) refl ne (next ne)

increasing_tail : (x : ℕ) (ts : List ℕ) → IsStrictlyIncreasing (x ∷ ts) → IsStrictlyIncreasing ts
increasing_tail x ts h k lt = let e : suc k + 1 ≡ suc (k + 1) = omega arith
    in subst (λ j. slice_index (x ∷ ts) (suc k) < slice_index (x ∷ ts) j) e
    (h (suc k) (omega arith))

pub ascends : (ts : List ℕ) → IsStrictlyIncreasing ts → Ascends 0 ts
ascends [] h = tt
ascends (x ∷ ts) h = (omega arith, tail x ts h)
  where
    tail : (x : ℕ) (ts : List ℕ) → IsStrictlyIncreasing (x ∷ ts) → Ascends (suc x) ts
    tail x [] h = tt
    tail x (y ∷ ts) h = (
      let lt : x < y = h 0 (omega arith) in omega arith,
      tail y ts (increasing_tail x (y ∷ ts) h),
    )
