-- What is sorted by texts that differ rises strictly.
use Rattle.std.proofs.Common.{◌≡◌, ℕ, suc, ◌+◌, ◌<◌, ◌≤◌, Bool, true, false, cond, List, [], ◌∷◌, length, map, get_or, refl, sym, ap, subst, ◌∙◌, arith, inl, inr}
use Rattle.std.specs.Prelude.{◌≢◌, All, sum_by}
use Rattle.std.specs.Str.{bytes_eq}
use Rattle.std.specs.List.{AllByRecursion}
use Rattle.std.specs.List.Sorted.{IsPermutation, IsSortedByKey, IsStrictlySortedBy}
use Rattle.std.specs.Ordering.{nat_cmp, ordering_reverse, is_lt}
use Rattle.std.specs.Cmp.Lexicographic.{slice_cmp, nat_list_cmp_total}
use Rattle.std.specs.declared.cmp.Ordering.{Ordering}
use Rattle.std.specs.declared.cmp.Ordering.TheVariants.{Less, Equal, Greater}
use Rattle.std.proofs.lemmas.List.Elements.{All-head, All-tail}
use Rattle.std.proofs.lemmas.List.Sorted.{sorted_far, ranks_by, sum_by-IsPermutation}
use Rattle.std.proofs.lemmas.List.Sums.{sum_by-cons}
use Rattle.std.proofs.lemmas.Map.Lookups.{exact_bytes}
use Rattle.std.proofs.lemmas.Slice.Eq.{bytes_eq-Decides}
use Rattle.seq.proofs.Truth.{two_ways}
use Rattle.core_reader.specs.Different.{AreDistinct}
use Rattle.core_link.specs.Union.{IsStrictlySorted}

abbrev Texts : Type 0
Texts = List (List ℕ)

same : (w : List ℕ) → bytes_eq w w ≡ true
same w = (bytes_eq-Decides w w).1 refl

alike : (v w : List ℕ) → bytes_eq v w ≡ true → v ≡ w
alike v w e = (bytes_eq-Decides v w).0 e

-- ---- how often a text stands among others

one_if : Bool → ℕ
one_if b = cond b 1 0

times : List ℕ → Texts → ℕ
times w [] = 0
times w (v ∷ ws) = one_if (bytes_eq w v) + times w ws

never : (w : List ℕ) (ws : Texts) → All (λ v. v ≢ w) ws → times w ws ≡ 0
unfolding times one_if
never w [] h = refl
never w (v ∷ ws) h = elim (two_ways (bytes_eq w v)) [
  | inl y ↦ absurd (All-head (λ v. v ≢ w) v ws h (sym (alike w v y)))
  | inr n ↦ (λ i. one_if (n i) + never w ws (All-tail (λ v. v ≢ w) v ws h) i)
]

once : (w : List ℕ) (ws : Texts) → AreDistinct ws → times w ws ≤ 1
unfolding times one_if
once w [] h = omega arith
once w (v ∷ ws) h = elim (two_ways (bytes_eq w v)) [
  | inl y ↦
      let z : times w ws ≡ 0 = never w ws (subst (λ u. All (λ x. x ≢ u) ws) (sym (alike w v y)) h.0)
      in
      let e : one_if (bytes_eq w v) ≡ 1 = ap one_if y in
      omega (arith, z, e)
  | inr n ↦
      let e : one_if (bytes_eq w v) ≡ 0 = ap one_if n in
      omega (arith, e, once w ws h.1)
]

module _ {X : Type 0} (key : X → List ℕ) where
  abbrev sum_times : List ℕ → List X → ℕ
  sum_times w xs = sum_by (λ x. one_if (bytes_eq w (key x))) xs

  times_sum : (w : List ℕ) (xs : List X) → times w (map key xs) ≡ sum_times w xs
  unfolding times
  times_sum w [] = refl
  times_sum w (x ∷ xs) = ap (λ n. one_if (bytes_eq w (key x)) + n) (times_sum w xs) ∙ sym
      (sum_by-cons (λ x. one_if (bytes_eq w (key x))) x xs)

  -- in another order each text stands as often
  still_once : (xs ys : List X) → IsPermutation xs ys → AreDistinct (map key xs) → (w : List ℕ)
      → times w (map key ys) ≤ 1
  still_once xs ys p d w =
      let e = sum_by-IsPermutation (λ x. one_if (bytes_eq w (key x))) xs ys p in
      omega (arith, e, times_sum w xs, times_sum w ys, once w (map key xs) d)

  -- ---- the order

  abbrev order : List ℕ → List ℕ → Ordering
  order = slice_cmp nat_cmp

  equal_alike : (v w : List ℕ) → order v w ≡ Equal → v ≡ w
  equal_alike v w e = exact_bytes v w e

  less_by : (v w : List ℕ) (o r : Ordering) → order v w ≡ o → order w v ≡ r → o ≡ ordering_reverse r
      → is_lt r ≡ false → (v ≡ w → ⊥) → order v w ≡ Less
  less_by v w Less r a b e f n = a
  less_by v w Equal r a b e f n = absurd (n (equal_alike v w a))
  less_by v w Greater Less a b e f n = absurd cc
  less_by v w Greater Equal a b e f n = absurd cc
  less_by v w Greater Greater a b e f n = absurd cc

  below : (v : List ℕ) (ys : List X) →
      ((k : ℕ) (d : X) → k < length ys → is_lt (order (key (get_or ys k d)) v) ≡ false)
      → times v (map key ys) ≡ 0 → AllByRecursion (λ w. order v w ≡ Less) (map key ys)
  unfolding times one_if
  below v [] h z = tt
  below v (y ∷ ys) h z =
      let none : one_if (bytes_eq v (key y)) ≡ 0 = omega (arith, z) in
      let differs : v ≡ key y → ⊥ = λ (e : v ≡ key y). let one : one_if (bytes_eq v (key y)) ≡ 1
      = ap one_if (ap (λ u. bytes_eq u (key y)) e ∙ same (key y)) in omega (arith, one, none)
      in (
        less_by v (key y) (order v (key y)) (order (key y) v) refl refl
            (nat_list_cmp_total.antisymm v (key y)) (h 0 y (omega arith)) differs,
        below v ys (λ k d l. h (suc k) d (omega (arith, l))) (omega (arith, z)),
      )

  rising_by : (xs : List X) → ((w : List ℕ) → times w (map key xs) ≤ 1) → IsSortedByKey key order xs
      → IsStrictlySorted (map key xs)
  unfolding IsStrictlySortedBy times one_if
  rising_by [] o s = tt
  rising_by (x ∷ xs) o s =
      let far = sorted_far (λ (a b : X). is_lt (order (key a) (key b)))
      (ranks_by nat_list_cmp_total key) (x ∷ xs) s in
      let at_x : one_if (bytes_eq (key x) (key x)) ≡ 1 = ap one_if (same (key x)) in
      let none : times (key x) (map key xs) ≡ 0 = omega (arith, at_x, o (key x)) in (
        below (key x) xs (λ k d l. far 0 (suc k) d (omega arith) (omega (arith, l))) none,
        rising_by xs (λ w. omega (arith, o w))
            (λ k d l h. let e : suc k + 1 ≡ suc (k + 1) = omega arith
            in subst (λ j. is_lt (order (key (get_or (x ∷ xs) j d)) (key (get_or xs k d))) ≡ false)
            e (s (suc k) d (omega arith) (omega (arith, h)))),
      )

  pub rising : (xs ys : List X) → IsPermutation xs ys → AreDistinct (map key xs)
      → IsSortedByKey key order ys → IsStrictlySorted (map key ys)
  rising xs ys p d s = rising_by ys (still_once xs ys p d) s
