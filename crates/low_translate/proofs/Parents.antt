-- Parents that become others.
use Rattle.std.proofs.Common.{◌≡◌, ◌≢◌, ◌⊎◌, inl, inr, ◌≤◌, ◌<◌, ℕ, zero, suc, ◌+◌, List, [], ◌∷◌, length, get_or, set, max, min, refl, sym, ap, ◌∙◌, arith, get_or-set_same, get_or-set_other}
use Rattle.std.proofs.lemmas.List.{length-set}
use Rattle.low_translate.specs.Groups.{ParentsAreSmaller, IsConstantOnGroups}

same_or_not : (x y : ℕ) → (x ≡ y) ⊎ (x ≢ y)
same_or_not zero zero = inl refl
same_or_not zero (suc y) = inr (λ e. absurd (omega (arith, e)))
same_or_not (suc x) zero = inr (λ e. absurd (omega (arith, e)))
same_or_not (suc x) (suc y) = elim (same_or_not x y)
    [ inl e ↦ inl (ap suc e) | inr n ↦ inr (λ e. n (omega (arith, e))) ]

le_or : (a b : ℕ) → (a ≤ b) ⊎ (b ≤ a)
le_or zero b = inl (omega arith)
le_or (suc a) zero = inr (omega arith)
le_or (suc a) (suc b) = elim (le_or a b)
    [ inl p ↦ inl (omega (arith, p)) | inr p ↦ inr (omega (arith, p)) ]

module _ (parents : List ℕ) (at to : ℕ) (known : at < length parents) where
  many : length (set parents at to) ≡ length parents
  many = length-set parents at to

  pub here : get_or (set parents at to) at 0 ≡ to
  here = get_or-set_same parents at to 0 known

  pub there : (x : ℕ) → x ≢ at → get_or (set parents at to) x 0 ≡ get_or parents x 0
  there x n = get_or-set_other parents at x to 0 n

  pub ordered_still : ParentsAreSmaller parents → to ≤ at → ParentsAreSmaller (set parents at to)
  ordered_still o le x lt = elim (same_or_not x at) [
    | inl e ↦ let h : get_or (set parents at to) x 0 ≡ to
        = ap (λ k. get_or (set parents at to) k 0) e ∙ here in omega (arith, h, le, e)
    | inr n ↦ let h = there x n in let p = o x (omega (arith, lt, many)) in omega (arith, h, p)
  ]

  pub firsts_still : (y : ℕ) → get_or parents at 0 ≢ at → get_or parents y 0 ≡ y
      → get_or (set parents at to) y 0 ≡ y
  firsts_still y n e = let d : y ≢ at = (λ q. n (ap (λ k. get_or parents k 0) (sym q) ∙ e ∙ q))
      in there y d ∙ e

  -- what is one for each number and its new parent is so for the parents before, where it is for
  -- this number
  pub respects_before : (c : ℕ → ℕ) → IsConstantOnGroups c (set parents at to)
      → c (get_or parents at 0) ≡ c at → IsConstantOnGroups c parents
  respects_before c r e x lt = elim (same_or_not x at) [
    | inl q ↦ ap (λ k. c (get_or parents k 0)) q ∙ e ∙ ap c (sym q)
    | inr n ↦ ap c (sym (there x n)) ∙ r x (omega (arith, lt, many))
  ]

  pub respects_here : (c : ℕ → ℕ) → IsConstantOnGroups c (set parents at to) → c to ≡ c at
  respects_here c r = ap c (sym here) ∙ r at (omega (arith, known, many))

  -- a parent's parent
  pub respects_parent : (c : ℕ → ℕ) (y : ℕ) → IsConstantOnGroups c (set parents at to) → y ≢ at
      → y < length parents → y ≡ get_or parents at 0 → to ≡ get_or parents y 0
      → c (get_or parents at 0) ≡ c at
  respects_parent c y r n lt e t = ap c (sym e) ∙ sym (r y (omega (arith, lt, many))) ∙ ap c
      (there y n ∙ sym t) ∙ respects_here c r

-- the larger of two first numbers becomes the smaller one's
module _ (parents : List ℕ) (a b high low : ℕ) (a_known : a < length parents)
    (b_known : b < length parents) (h : high ≡ max a b) (l : low ≡ min a b) where
  known_high : high < length parents
  known_high = omega (arith, a_known, b_known, h)

  either : ((high ≡ a) × (low ≡ b)) ⊎ ((high ≡ b) × (low ≡ a))
  either = elim (le_or a b) [
    | inl p ↦ inr (omega (arith, p, h), omega (arith, p, l))
    | inr p ↦ inl (omega (arith, p, h), omega (arith, p, l))
  ]

  pub same_parent : (c : ℕ → ℕ) → IsConstantOnGroups c (set parents high low) → c a ≡ c b
  same_parent c r = elim either [
    | inl e ↦ ap c (sym e.0) ∙ sym (respects_here parents high low known_high c r) ∙ ap c e.1
    | inr e ↦ ap c (sym e.1) ∙ respects_here parents high low known_high c r ∙ ap c e.0
  ]

  pub joined_then : get_or parents a 0 ≡ a → get_or parents b 0 ≡ b → (c : ℕ → ℕ)
      → IsConstantOnGroups c (set parents high low) → IsConstantOnGroups c parents
  joined_then fa fb c r = respects_before parents high low known_high c r (elim either [
    | inl e ↦ ap (λ k. c (get_or parents k 0)) e.0 ∙ ap c (fa ∙ sym e.0)
    | inr e ↦ ap (λ k. c (get_or parents k 0)) e.0 ∙ ap c (fb ∙ sym e.0)
  ])

pub at_any : (xs : List ℕ) (i d e : ℕ) → i < length xs → get_or xs i d ≡ get_or xs i e
at_any [] i d e h = absurd (omega (arith, h))
at_any (x ∷ xs) zero d e h = refl
at_any (x ∷ xs) (suc i) d e h = at_any xs i d e (omega (arith, h))

-- ---- values of numbers

module _ (values : List ℕ) (at to : ℕ) (known : at < length values) where
  pub more_still : get_or values at 0 ≤ to → (y : ℕ)
      → get_or values y 0 ≤ get_or (set values at to) y 0
  more_still le y = elim (same_or_not y at) [
    | inl e ↦ let h : get_or (set values at to) y 0 ≡ to
        = ap (λ k. get_or (set values at to) k 0) e ∙ here values at to known in let q
        : get_or values y 0 ≡ get_or values at 0 = ap (λ k. get_or values k 0) e
        in omega (arith, h, q, le)
    | inr n ↦ let h = there values at to known y n in omega (arith, h)
  ]

  pub few_still : (most : ℕ) → to ≤ most → ((y : ℕ) → get_or values y 0 ≤ most) → (y : ℕ)
      → get_or (set values at to) y 0 ≤ most
  few_still most le h y = elim (same_or_not y at) [
    | inl e ↦ let k : get_or (set values at to) y 0 ≡ to
        = ap (λ k. get_or (set values at to) k 0) e ∙ here values at to known
        in omega (arith, k, le)
    | inr n ↦ let k = there values at to known y n in let q = h y in omega (arith, k, q)
  ]

-- one number more whose parent has no less
pub raised_more : (parents values : List ℕ) (x p v : ℕ) → ParentsAreSmaller parents
    → x < length parents → p < length values → p ≡ get_or parents x 0 → get_or values x 0 ≤ v
    → get_or values p 0 ≤ v
    → ((y : ℕ) → x + 1 ≤ y → y < length parents → get_or values y 0 ≤ get_or values
    (get_or parents y 0) 0)
    → (y : ℕ) → x ≤ y → y < length parents → get_or (set values p v) y 0 ≤ get_or (set values p v)
    (get_or parents y 0) 0
raised_more parents values x p v o kx kp ep lx lp h y le ky = elim (same_or_not y x) [
  | inl e ↦
      let a : get_or (set values p v) (get_or parents y 0) 0 ≡ v
      = ap (λ k. get_or (set values p v) (get_or parents k 0) 0) e ∙ ap
      (λ k. get_or (set values p v) k 0) (sym ep) ∙ here values p v kp in
      let b : get_or (set values p v) y 0 ≤ v = few_at e in
      omega (arith, a, b)
  | inr n ↦
      let px : p ≤ x = (let q = o x kx in omega (arith, q, ep)) in
      let d : y ≢ p = λ e. n (omega (arith, e, px, le)) in
      let a = there values p v kp y d in
      let b = h y (omega (arith, le, n)) ky in
      let m = more_still values p v kp lp (get_or parents y 0) in
      omega (arith, a, b, m)
]
  where
    few_at : y ≡ x → get_or (set values p v) y 0 ≤ v
    few_at e = elim (same_or_not y p) [
      | inl q ↦ let k : get_or (set values p v) y 0 ≡ v
          = ap (λ k. get_or (set values p v) k 0) q ∙ here values p v kp in omega (arith, k)
      | inr d ↦ let k = there values p v kp y d in let q : get_or values y 0 ≡ get_or values x 0
          = ap (λ k. get_or values k 0) e in omega (arith, k, q, lx)
    ]

-- one number more that has its parent's value
pub same_more : (parents values : List ℕ) (x v : ℕ) → ParentsAreSmaller parents → x < length parents
    → length values ≡ length parents → v ≡ get_or values (get_or parents x 0) 0
    → ((y : ℕ) → y < x → get_or values (get_or parents y 0) 0 ≡ get_or values y 0) → (y : ℕ)
    → y < x + 1 → get_or (set values x v) (get_or parents y 0) 0 ≡ get_or (set values x v) y 0
same_more parents values x v o kx m ev h y lt = elim (same_or_not y x) [
  | inl e ↦ ap (λ k. get_or (set values x v) (get_or parents k 0) 0) e ∙ own ∙ sym
      (here values x v kv) ∙ ap (λ k. get_or (set values x v) k 0) (sym e)
  | inr n ↦
      let ly : y < x = omega (arith, lt, n) in
      let q = o y (omega (arith, ly, kx)) in
      let d : get_or parents y 0 ≢ x = λ e. absurd (omega (arith, e, q, ly)) in
      there values x v kv _ d ∙ h y ly ∙ sym (there values x v kv y n)
]
  where
    kv : x < length values
    kv = omega (arith, kx, m)

    own : get_or (set values x v) (get_or parents x 0) 0 ≡ v
    own = elim (same_or_not (get_or parents x 0) x) [
      | inl e ↦ ap (λ k. get_or (set values x v) k 0) e ∙ here values x v kv
      | inr n ↦ there values x v kv _ n ∙ sym ev
    ]

pub spread_more : (old parents values : List ℕ) (x v : ℕ) → x < length values
    → v ≡ get_or values (get_or parents x 0) 0 → get_or old x 0 ≤ get_or old (get_or parents x 0) 0
    → ((y : ℕ) → get_or old y 0 ≤ get_or values y 0) → (y : ℕ)
    → get_or old y 0 ≤ get_or (set values x v) y 0
spread_more old parents values x v k ev r h y = elim (same_or_not y x) [
  | inl e ↦
      let a : get_or (set values x v) y 0 ≡ v = ap (λ k. get_or (set values x v) k 0) e ∙ here
      values x v k in
      let b = h (get_or parents x 0) in
      let q : get_or old y 0 ≡ get_or old x 0 = ap (λ k. get_or old k 0) e in
      omega (arith, a, b, q, r, ev)
  | inr n ↦ let a = there values x v k y n in let b = h y in omega (arith, a, b)
]
