-- The first place among several.
use Rattle.std.proofs.Common.{◌≡◌, ℕ, zero, suc, ◌<◌, ◌≤◌, Bool, true, false, List, [], ◌∷◌, refl, sym, ap, subst, ◌∙◌, arith, Option, Some, None, ◌⊎◌, inl, inr}
use Rattle.std.specs.Prelude.{nat_lt, slice_get, if◌then◌else◌}
use Rattle.seq.proofs.Order.{compared}
use Rattle.seq.proofs.Truth.{two_ways}
use Rattle.core_link.specs.Found.{IsFirstPlaceWhere, NamesFirstBrokenRule, sooner, earlier_place_if, earliest}

-- ---- one rule after the other

lt_true : (a b : ℕ) → nat_lt a b ≡ true → a < b
lt_true a b e = grind (arith, e)

lt_false : (a b : ℕ) → nat_lt a b ≡ false → b ≤ a
lt_false a b e = grind (arith, e)

-- a rule is one of those before or this one
abbrev pub And : (ℕ → ℕ → Type 0) → ℕ → (ℕ → Type 0) → ℕ → ℕ → Type 0
And P k Q k' at = P k' at ⊎ ((k' ≡ k) × Q at)

none_before : (P : ℕ → ℕ → Type 0) (k : ℕ) (Q : ℕ → Type 0) → ((k' at : ℕ) → P k' at → ⊥) → (at : ℕ)
    → ((at' : ℕ) → Q at' → at ≤ at') → (k' at' : ℕ) → And P k Q k' at' → (at < at')
    ⊎ ((at ≡ at') × (k ≤ k'))
none_before P k Q none at least k' at' (inl p) = absurd (none k' at' p)
none_before P k Q none at least k' at' (inr q) = elim (compared at at') [
  | inl l ↦ inl l
  | inr m ↦ elim m [
    | inl s ↦ inr (s, (let e = q.0 in omega (arith, e)))
    | inr g ↦ absurd
        (let l = least at' q.1 in omega (arith, g, l))
  ]
]

new_first : (P : ℕ → ℕ → Type 0) (k : ℕ) (Q : ℕ → Type 0) (f : ℕ × ℕ) (at : ℕ)
    → ((k' at' : ℕ) → P k' at' → (f.1 < at') ⊎ ((f.1 ≡ at') × (f.0 ≤ k')))
    → ((at' : ℕ) → Q at' → at ≤ at') → at < f.1
    → (k' at' : ℕ) → And P k Q k' at' → (at < at') ⊎ ((at ≡ at') × (k ≤ k'))
new_first P k Q f at first least l k' at' (inl p) = elim (first k' at' p)
    [ inl m ↦ inl (omega (arith, l, m)) | inr e ↦ inl (let s = e.0 in omega (arith, l, s)) ]
new_first P k Q f at first least l k' at' (inr q) = elim (compared at at') [
  | inl l ↦ inl l
  | inr m ↦ elim m [
    | inl s ↦ inr (s, (let e = q.0 in omega (arith, e)))
    | inr g ↦ absurd
        (let l = least at' q.1 in omega (arith, g, l))
  ]
]

old_first : (P : ℕ → ℕ → Type 0) (k : ℕ) (Q : ℕ → Type 0) (f : ℕ × ℕ) (at : ℕ)
    → ((k' at' : ℕ) → P k' at' → (f.1 < at') ⊎ ((f.1 ≡ at') × (f.0 ≤ k')))
    → ((at' : ℕ) → Q at' → at ≤ at') → f.1 ≤ at → f.0 ≤ k
    → (k' at' : ℕ) → And P k Q k' at' → (f.1 < at') ⊎ ((f.1 ≡ at') × (f.0 ≤ k'))
old_first P k Q f at first least l n k' at' (inl p) = first k' at' p
old_first P k Q f at first least l n k' at' (inr q) =
    let m = least at' q.1 in
    let e = q.0 in
    elim (compared f.1 at') [
      | inl g ↦ inl g
      | inr h ↦ elim h
          [ inl s ↦ inr (s, omega (arith, e, n)) | inr g ↦ absurd (omega (arith, g, l, m)) ]
    ]

-- the rules that were found before have smaller numbers
pub sooner_first : (P : ℕ → ℕ → Type 0) (k : ℕ) (Q : ℕ → Type 0) (found : Option (ℕ × ℕ))
    (place : Option ℕ) → ((k' at : ℕ) → P k' at → k' ≤ k) → NamesFirstBrokenRule P found
    → IsFirstPlaceWhere Q place → NamesFirstBrokenRule (And P k Q) (sooner found k place)
sooner_first P k Q None None below h g = λ k' at b. elim b [ inl p ↦ h k' at p | inr q ↦ g at q.1 ]
sooner_first P k Q (Some f) None below h g =
    (inl h.0, λ k' at b. elim b [ inl p ↦ h.1 k' at p | inr q ↦ absurd (g at q.1) ])
sooner_first P k Q None (Some at) below h g = (inr (refl, g.0), none_before P k Q h at g.1)
sooner_first P k Q (Some f) (Some at) below h g = elim (two_ways (nat_lt at f.1)) [
  | inl y ↦ subst (NamesFirstBrokenRule (And P k Q))
      (ap (λ b. if b then Some (k, at) else Some f) (sym y))
      (inr (refl, g.0), new_first P k Q f at h.1 g.1 (lt_true at f.1 y))
  | inr n ↦ subst (NamesFirstBrokenRule (And P k Q))
      (ap (λ b. if b then Some (k, at) else Some f) (sym n))
      (inl h.0, old_first P k Q f at h.1 g.1 (lt_false at f.1 n) (below f.0 f.1 h.0))
]

-- ---- the items of a list that pass a test, each with its place

pub same_first : (P Q : ℕ → Type 0) → ((at : ℕ) → P at → Q at) → ((at : ℕ) → Q at → P at)
    → (o : Option ℕ) → IsFirstPlaceWhere P o → IsFirstPlaceWhere Q o
same_first P Q to from None h = λ at q. h at (from at q)
same_first P Q to from (Some a) h = (to a h.0, λ at q. h.1 at (from at q))

pub same_of : (P Q : ℕ → ℕ → Type 0) → ((k at : ℕ) → P k at → Q k at)
    → ((k at : ℕ) → Q k at → P k at) → (o : Option (ℕ × ℕ)) → NamesFirstBrokenRule P o
    → NamesFirstBrokenRule Q o
same_of P Q to from None h = λ k at q. h k at (from k at q)
same_of P Q to from (Some f) h = (to f.0 f.1 h.0, λ k at q. h.1 k at (from k at q))

abbrev pub Here : Bool → ℕ → ℕ → Type 0
Here b a at = (b ≡ true) × (a ≡ at)

pub false_here : (P : ℕ → Type 0) (a at : ℕ) → P at ⊎ Here false a at → P at
false_here P a at (inl p) = p
false_here P a at (inr q) = absurd cc

pub here_first : (b : Bool) (a : ℕ) (P : ℕ → Type 0) (o : Option ℕ) → IsFirstPlaceWhere P o
    → IsFirstPlaceWhere (λ at. P at ⊎ Here b a at) (earlier_place_if b o a)
here_first false a P o h = same_first P (λ at. P at ⊎ Here false a at) (λ at p. inl p)
    (false_here P a) o h
here_first true a P None h = (
  inr (refl, refl),
  λ at q. elim q
      [ inl p ↦ absurd (h at p) | inr w ↦ (let e = w.1 in omega (arith, e)) ],
)
here_first true a P (Some c) h = elim (two_ways (nat_lt a c)) [
  | inl y ↦ subst (IsFirstPlaceWhere (λ at. P at ⊎ Here true a at))
      (ap (λ b. if b then Some a else Some c) (sym y)) (
        inr (refl, refl),
        λ at q. elim q [
          | inl p ↦ (let l = h.1 at p in let m = lt_true a c y in omega (arith, l, m))
          | inr w ↦
              (let e = w.1 in omega (arith, e))
        ],
      )
  | inr n ↦ subst (IsFirstPlaceWhere (λ at. P at ⊎ Here true a at))
      (ap (λ b. if b then Some a else Some c) (sym n)) (
        inl h.0,
        λ at q. elim q [
          | inl p ↦ h.1 at p
          | inr w ↦
              (let e = w.1 in let m = lt_false a c n in omega (arith, e, m))
        ],
      )
]

pub regroup : (A B C : Type 0) → (A ⊎ B) ⊎ C → A ⊎ (B ⊎ C)
regroup A B C (inl (inl a)) = inl a
regroup A B C (inl (inr b)) = inr (inl b)
regroup A B C (inr c) = inr (inr c)

pub regroup_back : (A B C : Type 0) → A ⊎ (B ⊎ C) → (A ⊎ B) ⊎ C
regroup_back A B C (inl a) = inl (inl a)
regroup_back A B C (inr (inl b)) = inl (inr b)
regroup_back A B C (inr (inr c)) = inr c

module _ {X : Type 0} (test : X → Bool) (place : X → ℕ) where
  abbrev pub Passed : List X → ℕ → Type 0
  Passed [] at = ⊥
  Passed (x ∷ xs) at = Here (test x) (place x) at ⊎ Passed xs at

  only_left : (P : ℕ → Type 0) (at : ℕ) → P at ⊎ Passed [] at → P at
  only_left P at (inl p) = p
  only_left P at (inr q) = absurd q

  pub earliest_first : (xs : List X) (P : ℕ → Type 0) (o : Option ℕ) → IsFirstPlaceWhere P o
      → IsFirstPlaceWhere (λ at. P at ⊎ Passed xs at) (earliest test place o xs)
  earliest_first [] P o h = same_first P (λ at. P at ⊎ Passed [] at) (λ at p. inl p) (only_left P) o
      h
  earliest_first (x ∷ xs) P o h =
      let next : ℕ → Type 0 = λ at. P at ⊎ Here (test x) (place x) at in
      same_first (λ at. next at ⊎ Passed xs at) (λ at. P at ⊎ Passed (x ∷ xs) at)
      (λ at. regroup (P at) (Here (test x) (place x) at) (Passed xs at))
      (λ at. regroup_back (P at) (Here (test x) (place x) at) (Passed xs at))
      (earliest test place (earlier_place_if (test x) o (place x)) xs)
      (earliest_first xs next (earlier_place_if (test x) o (place x))
      (here_first (test x) (place x) P o h))

  -- an item that passes has this place
  pub record PassedAt (xs : List X) (at : ℕ) : Type 0 where
    pub number : ℕ
    pub item : X
    pub is : slice_get xs number ≡ Some item
    pub passes : test item ≡ true
    pub there : place item ≡ at

  pub passed_at : (xs : List X) (at : ℕ) → Passed xs at → PassedAt xs at
  passed_at [] at h = absurd h
  passed_at (x ∷ xs) at (inl h) = record
      { number = zero; item = x; is = refl; passes = h.0; there = h.1 }
  passed_at (x ∷ xs) at (inr h) = let w = passed_at xs at h
      in record
      { number = suc w.number; item = w.item; is = w.is; passes = w.passes; there = w.there }

  pub at_passed : (xs : List X) (i : ℕ) (x : X) → slice_get xs i ≡ Some x → test x ≡ true
      → Passed xs (place x)
  at_passed [] i x e t = absurd cc
  at_passed (y ∷ xs) zero x e t =
      let same : y ≡ x = cc in
      inl (ap test same ∙ t, ap place same)
  at_passed (y ∷ xs) (suc i) x e t = inr (at_passed xs i x e t)

  nothing : ℕ → Type 0
  nothing at = ⊥

  to_passed : (xs : List X) (at : ℕ) → nothing at ⊎ Passed xs at → PassedAt xs at
  unfolding nothing
  to_passed xs at (inl h) = absurd h
  to_passed xs at (inr h) = passed_at xs at h

  from_passed : (xs : List X) (at : ℕ) → PassedAt xs at → nothing at ⊎ Passed xs at
  from_passed xs at w = inr (subst (Passed xs) w.there (at_passed xs w.number w.item w.is w.passes))

  none_first : IsFirstPlaceWhere nothing None
  unfolding nothing
  none_first = λ at h. h

  pub first_passed : (xs : List X) → IsFirstPlaceWhere (PassedAt xs) (earliest test place None xs)
  first_passed xs = same_first (λ at. nothing at ⊎ Passed xs at) (PassedAt xs) (to_passed xs)
      (from_passed xs) (earliest test place None xs) (earliest_first xs nothing None none_first)
