-- A list in another order: where each of its items went.
use Rattle.std.proofs.Common.{◌≡◌, ℕ, zero, suc, ◌<◌, Bool, true, false, List, [], ◌∷◌, length, refl, sym, ap, ◌∙◌, arith, ◌⊎◌, Some, inl, inr, IsPermutation}
use Rattle.std.specs.Prelude.{◌≢◌, ◌==◌, slice_get, slice_set, slice_index_or}
use Rattle.std.specs.List.{swap}
use Rattle.std.proofs.lemmas.Bool.{eqb-true, eq-eqb}
use Rattle.std.proofs.lemmas.List.Sorted.{IsPermutation-keeps, IsPermutation-sym}
use Rattle.seq.proofs.Lists.{get_set, length_set}
use Rattle.seq.proofs.Truth.{two_ways, not_both}

-- each item has a place of its own in the other list
pub record Moved {X : Type 0} (xs ys : List X) : Type 0 where
  pub to : ℕ → ℕ
  pub apart : (i j : ℕ) → to i ≡ to j → i ≡ j
  pub there : (i : ℕ) (x : X) → slice_get xs i ≡ Some x → slice_get ys (to i) ≡ Some x

get_other : {X : Type 0} (xs : List X) (i k : ℕ) (x : X) → i ≢ k
    → slice_get (slice_set xs i x) k ≡ slice_get xs k
get_other [] i k x h = refl
get_other (y ∷ xs) zero zero x h = absurd (h refl)
get_other (y ∷ xs) zero (suc k) x h = refl
get_other (y ∷ xs) (suc i) zero x h = refl
get_other (y ∷ xs) (suc i) (suc k) x h = get_other xs i k x (λ e. h (ap suc e))

item_at : {X : Type 0} (xs : List X) (i : ℕ) (x d : X) → slice_get xs i ≡ Some x
    → slice_index_or xs i d ≡ x
item_at [] i x d e = absurd cc
item_at (y ∷ xs) zero x d e = cc
item_at (y ∷ xs) (suc i) x d e = item_at xs i x d e

abbrev exchanged_by : ℕ → ℕ → ℕ → Bool → Bool → ℕ
exchanged_by i j k true b = j
exchanged_by i j k false true = i
exchanged_by i j k false false = k

abbrev exchanged : ℕ → ℕ → ℕ → ℕ
exchanged i j k = exchanged_by i j k (k == i) (k == j)

exchanged_first : (i j k : ℕ) → k ≡ i → exchanged i j k ≡ j
exchanged_first i j k e = ap (λ b. exchanged_by i j k b (k == j)) (eq-eqb k i e)

other : (k i : ℕ) → k ≢ i → (k == i) ≡ false
other k i h = go (k == i) refl
  where
    go : (b : Bool) → (k == i) ≡ b → b ≡ false
    go true e = absurd (h (eqb-true k i e))
    go false e = refl

exchanged_second : (i j k : ℕ) → k ≢ i → k ≡ j → exchanged i j k ≡ i
exchanged_second i j k h e = (λ t. exchanged_by i j k (other k i h t) (k == j)) ∙ ap
    (exchanged_by i j k false) (eq-eqb k j e)

exchanged_third : (i j k : ℕ) → k ≢ i → k ≢ j → exchanged i j k ≡ k
exchanged_third i j k h g = (λ t. exchanged_by i j k (other k i h t) (k == j)) ∙ ap
    (exchanged_by i j k false) (other k j g)

data Place (i j k : ℕ) : Type 0 where
  AtFirst : k ≡ i → Place i j k
  AtSecond : k ≢ i → k ≡ j → Place i j k
  Elsewhere : k ≢ i → k ≢ j → Place i j k

pub differs : (k i : ℕ) → (k == i) ≡ false → k ≢ i
differs k i h e = not_both (k == i) (eq-eqb k i e) h

place : (i j k : ℕ) → Place i j k
place i j k = elim (two_ways (k == i)) [
  | inl y ↦ AtFirst (eqb-true k i y)
  | inr n ↦ elim (two_ways (k == j)) [
    | inl y ↦ AtSecond (differs k i n) (eqb-true k j y)
    | inr m ↦ Elsewhere (differs k i n)
        (differs k j m)
  ]
]

back_by : (i j k : ℕ) → Place i j k → exchanged i j (exchanged i j k) ≡ k
back_by i j k (AtFirst e) = ap (exchanged i j) (exchanged_first i j k e) ∙ at_second
    (two_ways (j == i)) ∙ sym e
  where
    at_second : ((j == i) ≡ true) ⊎ ((j == i) ≡ false) → exchanged i j j ≡ i
    at_second (inl y) = exchanged_first i j j (eqb-true j i y) ∙ eqb-true j i y
    at_second (inr n) = exchanged_second i j j (differs j i n) refl
back_by i j k (AtSecond h e) = ap (exchanged i j) (exchanged_second i j k h e) ∙ exchanged_first i j
    i refl ∙ sym e
back_by i j k (Elsewhere h g) = ap (exchanged i j) (exchanged_third i j k h g) ∙ exchanged_third i j
    k h g

module _ {X : Type 0} where
  swapped_there : (y : X) (ys : List X) (i j k : ℕ) (x : X) → i < length (y ∷ ys)
      → j < length (y ∷ ys) → slice_get (y ∷ ys) k ≡ Some x → Place i j k
      → slice_get (swap (y ∷ ys) i j) (exchanged i j k) ≡ Some x
  swapped_there y ys i j k x p q e (AtFirst f) =
      let l = y ∷ ys in
      let w = slice_set l i (slice_index_or l j y) in
      let long : length w ≡ length l = length_set l i (slice_index_or l j y) in
      ap (slice_get (swap l i j)) (exchanged_first i j k f) ∙ get_set w j (slice_index_or l i y)
      (omega (arith, q, long))
      ∙ ap (λ z. Some z) (item_at l i x y (sym (ap (slice_get l) f) ∙ e))
  swapped_there y ys i j k x p q e (AtSecond h f) =
      let l = y ∷ ys in
      let w = slice_set l i (slice_index_or l j y) in
      ap (slice_get (swap l i j)) (exchanged_second i j k h f) ∙ get_other w j i
      (slice_index_or l i y) (λ g. h (f ∙ g)) ∙ get_set l i (slice_index_or l j y) p
      ∙ ap (λ z. Some z) (item_at l j x y (sym (ap (slice_get l) f) ∙ e))
  swapped_there y ys i j k x p q e (Elsewhere h g) =
      let l = y ∷ ys in
      let w = slice_set l i (slice_index_or l j y) in
      ap (slice_get (swap l i j)) (exchanged_third i j k h g) ∙ get_other w j k
      (slice_index_or l i y) (λ f. g (sym f)) ∙ get_other l i k (slice_index_or l j y)
      (λ f. h (sym f)) ∙ e

  swapped : (l : List X) (i j k : ℕ) (x : X) → i < length l → j < length l → slice_get l k ≡ Some x
      → slice_get (swap l i j) (exchanged i j k) ≡ Some x
  swapped [] i j k x p q e = absurd cc
  swapped (y ∷ ys) i j k x p q e = swapped_there y ys i j k x p q e (place i j k)

  once_more : (xs l : List X) (i j : ℕ) → i < length l → j < length l → Moved xs l
      → Moved xs (swap l i j)
  once_more xs l i j p q m = record {
    to = λ k. exchanged i j (m.to k);
    apart = λ a b e. m.apart a b
        (sym (back_by i j (m.to a) (place i j (m.to a))) ∙ ap (exchanged i j) e ∙ back_by i j
        (m.to b) (place i j (m.to b)));
    there = λ k x e. swapped l i j (m.to k) x p q (m.there k x e);
  }

  pub moved : (xs ys : List X) → IsPermutation xs ys → Moved xs ys
  moved xs ys = IsPermutation-keeps xs (Moved xs)
      (record { to = λ k. k; apart = λ i j e. e; there = λ i x e. e })
      (λ l i j p q m. once_more xs l i j p q m) ys

  pub moved_back : (xs ys : List X) → IsPermutation xs ys → Moved ys xs
  moved_back xs ys p = moved ys xs (IsPermutation-sym xs ys p)
