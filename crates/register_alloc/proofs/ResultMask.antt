-- The mask of the registers of results.
use Rattle.std.proofs.Common.{◌≡◌, ◌⊎◌, ℕ, zero, suc, ◌+◌, ◌%◌, ◌^◌, ◌≤◌, ◌<◌, min, Bool, true, false, ◌&&◌, nat_eq, nat_le, nat_lt, inl, inr, refl, sym, ap, ◌∙◌, subst, arith, cond}
use Rattle.std.proofs.lemmas.Bool.Decides.{nat_tests}
use Rattle.std.specs.Int.{bit_at}
use Rattle.seq.proofs.Truth.{and_parts, and_false}
use native.Mathlib.Nat.{div-eq_of_lt}
use lib.Pow.{pow_mono}
use Rattle.register_alloc.specs.Results.{result_mask}

-- ---- the mask of results

abbrev is_result : ℕ → ℕ → Bool
is_result n r = nat_le 10 r && nat_lt r (10 + n)

abbrev says : ℕ → ℕ → Bool
says n r = nat_eq (bit_at (result_mask n) r) (cond (is_result n r) 1 0)

abbrev all_say : ℕ → ℕ → Bool
all_say n zero = true
all_say n (suc k) = says n k && all_say n k

abbrev every : ℕ → Bool
every zero = all_say 0 24
every (suc n) = all_say (suc n) 24 && every n

say_at : (n k r : ℕ) → all_say n k ≡ true → r < k → says n r ≡ true
say_at n zero r h l = absurd (omega arith)
say_at n (suc k) r h l = go (below r k l) (and_parts (says n k) (all_say n k) h)
    (λ m. say_at n k r (and_parts (says n k) (all_say n k) h).1 m)
  where
    below : (r k : ℕ) → r < suc k → (r ≡ k) ⊎ (r < k)
    below zero zero l = inl refl
    below zero (suc k) l = inr (omega arith)
    below (suc r) zero l = absurd (omega arith)
    below (suc r) (suc k) l = up (below r k (omega arith))
      where
        up : (r ≡ k) ⊎ (r < k) → (suc r ≡ suc k) ⊎ (suc r < suc k)
        up (inl e) = inl (ap suc e)
        up (inr m) = inr (omega arith)

    go : (r ≡ k) ⊎ (r < k) → (says n k ≡ true) × (all_say n k ≡ true) → (r < k → says n r ≡ true)
        → says n r ≡ true
    go (inl e) b more = subst (λ z. says n z ≡ true) (sym e) b.0
    go (inr m) b more = more m

every_says : (m n : ℕ) → every m ≡ true → n ≤ m → all_say n 24 ≡ true
every_says zero zero h l = h
every_says zero (suc n) h l = absurd (omega arith)
every_says (suc m) n h l = go (top n m l) (and_parts (all_say (suc m) 24) (every m) h)
    (λ k. every_says m n (and_parts (all_say (suc m) 24) (every m) h).1 k)
  where
    top : (n m : ℕ) → n ≤ suc m → (n ≡ suc m) ⊎ (n ≤ m)
    top zero m l = inr (omega arith)
    top (suc n) zero l = inl (omega arith)
    top (suc n) (suc m) l = up (top n m (omega arith))
      where
        up : (n ≡ suc m) ⊎ (n ≤ m) → (suc n ≡ suc (suc m)) ⊎ (suc n ≤ suc m)
        up (inl e) = inl (ap suc e)
        up (inr k) = inr (omega arith)

    go : (n ≡ suc m) ⊎ (n ≤ m) → (all_say (suc m) 24 ≡ true) × (every m ≡ true)
        → (n ≤ m → all_say n 24 ≡ true) → all_say n 24 ≡ true
    go (inl e) b more = subst (λ z. all_say z 24 ≡ true) (sym e) b.0
    go (inr k) b more = more k

all_checked : every 13 ≡ true
all_checked = refl

high_bit : (n r : ℕ) → n < 2 ^ 24 → 24 ≤ r → bit_at n r ≡ 0
high_bit n r l h = let p : 2 ^ 24 ≤ 2 ^ r = pow_mono h
    in ap (λ q. q % 2) (div-eq_of_lt (omega (arith, l, p)))

mask_small : (n : ℕ) → n ≤ 13 → result_mask n < 2 ^ 24
mask_small n h = let l : min n 13 ≤ 13 = omega arith in let p : 2 ^ min n 13 ≤ 2 ^ 13 = pow_mono l
    in omega (arith, p)

bit_is : (n r : ℕ) → n ≤ 13 → bit_at (result_mask n) r ≡ cond (is_result n r) 1 0
bit_is n r h = go (side r)
  where
    side : (r : ℕ) → (r < 24) ⊎ (24 ≤ r)
    side r = from (nat_lt r 24) refl
      where
        from : (b : Bool) → nat_lt r 24 ≡ b → (r < 24) ⊎ (24 ≤ r)
        from true e = inl (grind (arith, nat_tests))
        from false e = inr (grind (arith, nat_tests))

    go : (r < 24) ⊎ (24 ≤ r) → bit_at (result_mask n) r ≡ cond (is_result n r) 1 0
    go (inl l) = let s : says n r ≡ true = say_at n 24 r (every_says 13 n all_checked h) l
        in grind (arith, nat_tests)
    go (inr g) =
        let f : nat_lt r (10 + n) ≡ false = grind (arith, nat_tests) in
        let e : is_result n r ≡ false = ap (λ b. nat_le 10 r && b) f ∙ and_false (nat_le 10 r) in
        high_bit (result_mask n) r (mask_small n h) g ∙ ap (λ b. cond b 1 0) (sym e)

pub result_bit : (n r : ℕ) → n ≤ 13 → bit_at (result_mask n) r ≡ 1 → (10 ≤ r) × (r < 10 + n)
result_bit n r h e = go (is_result n r) refl
  where
    go : (b : Bool) → is_result n r ≡ b → (10 ≤ r) × (r < 10 + n)
    go true q =
        let t = and_parts (nat_le 10 r) (nat_lt r (10 + n)) q in
        let a : nat_le 10 r ≡ true = t.0 in
        let b : nat_lt r (10 + n) ≡ true = t.1 in
        (grind (arith, nat_tests), grind (arith, nat_tests))
    go false q = let z : 1 ≡ 0 = sym e ∙ bit_is n r h ∙ ap (λ b. cond b 1 0) q
        in absurd (omega (arith, z))

pub bit_result : (n r : ℕ) → n ≤ 13 → 10 ≤ r → r < 10 + n → bit_at (result_mask n) r ≡ 1
bit_result n r h a b =
    let x : nat_le 10 r ≡ true = grind (arith, nat_tests) in
    let y : nat_lt r (10 + n) ≡ true = grind (arith, nat_tests) in
    bit_is n r h ∙ ap (λ c. cond (c && nat_lt r (10 + n)) 1 0) x ∙ ap (λ c. cond c 1 0) y
