-- How often a number stands in a list.
use Rattle.std.proofs.Common.{◌≡◌, ◌⊎◌, ℕ, ◌+◌, ◌≤◌, Bool, true, false, ◌||◌, nat_eq, List, [], ◌∷◌, inl, inr, refl, sym, ap, subst, arith}
use Rattle.std.proofs.lemmas.Bool.Decides.{nat_tests}
use Rattle.low_code.specs.Formed.{Distinct}
use Rattle.seq.specs.Lists.{times, is_among}
use Rattle.seq.proofs.Counted.{counts, among_cases, one_at, not_among_times}

-- ---- how often a variable stands in a list

pub among_times : (x : ℕ) (xs : List ℕ) → is_among x xs ≡ true → 1 ≤ times x xs
among_times x [] h = cc
among_times x (y ∷ ys) h = go (among_cases x y ys h) (λ r. among_times x ys r)
  where
    go : (x ≡ y) ⊎ (is_among x ys ≡ true) → (is_among x ys ≡ true → 1 ≤ times x ys)
        → 1 ≤ counts (nat_eq x y) + times x ys
    go (inl e) k = let one : counts (nat_eq x y) ≡ 1
        = subst (λ z. counts (nat_eq x z) ≡ 1) e (one_at x) in omega arith
    go (inr r) k = let l = k r in omega arith

    second : (a b : Bool) → (a || b) ≡ false → b ≡ false
    second true b e = cc
    second false b e = e

-- where each number stands once
pub once : (xs : List ℕ) → Distinct xs → (x : ℕ) → times x xs ≤ 1
once [] d x = omega arith
once (y ∷ ys) d x = go (nat_eq x y) refl (once ys d.1 x)
  where
    go : (b : Bool) → nat_eq x y ≡ b → times x ys ≤ 1 → counts (nat_eq x y) + times x ys ≤ 1
    go true e k =
        let same : x ≡ y = grind (arith, nat_tests) in
        let none : times x ys ≡ 0 = subst (λ z. times z ys ≡ 0) (sym same)
        (not_among_times y ys d.0) in
        let one : counts (nat_eq x y) ≡ 1 = ap counts e in
        omega arith
    go false e k = let z : counts (nat_eq x y) ≡ 0 = ap counts e in omega arith

here : (x : ℕ) (xs : List ℕ) → 1 ≤ times x (x ∷ xs)
here x xs = let h = one_at x in omega (arith, h)

there : (y x : ℕ) (xs : List ℕ) → 1 ≤ times y xs → 1 ≤ times y (x ∷ xs)
there y x xs h = omega (arith, h)
