-- There is one order in which modules stand by the bytes of their names.
use Rattle.std.proofs.Common.{◌≡◌, ℕ, List, [], ◌∷◌, map, refl, sym, subst, ◌∙◌, inl, inr}
use Rattle.std.specs.Ordering.{nat_cmp}
use Rattle.std.specs.Cmp.Lexicographic.{slice_cmp, nat_list_cmp_total}
use Rattle.std.specs.declared.cmp.Ordering.TheVariants.{Less}
use Rattle.std.specs.List.{AllByRecursion}
use Rattle.std.proofs.lemmas.Map.Keys.{sorted_head, sorted_tail}
use Rattle.seq.specs.Lists.{In, here, there}
use Rattle.seq.proofs.Member.{cons_in, none_in}
use Rattle.core_link.specs.Union.{IsStrictlySorted}

module _ {X : Type 0} (key : X → List ℕ) where
  abbrev pub Below : List ℕ → List ℕ → Type 0
  Below k l = slice_cmp nat_cmp k l ≡ Less

  -- a name is below itself nowhere, and of two names one at most is below the other
  pub not_both : (k l : List ℕ) → Below k l → Below l k → ⊥
  not_both k l h g = let e = nat_list_cmp_total.antisymm k l in cc

  pub below_all : (k : List ℕ) (xs : List X) → AllByRecursion (Below k) (map key xs) → (y : X)
      → In y xs → Below k (key y)
  below_all k [] h y i = none_in i
  below_all k (x ∷ xs) h y here = h.0
  below_all k (x ∷ xs) h y (there i) = below_all k xs h.1 y i

  abbrev Includes : List X → List X → Type 0
  Includes xs ys = (z : X) → In z xs → In z ys

  module _ (x : X) (xs : List X) (y : X) (ys : List X)
      (rising : IsStrictlySorted (map key (x ∷ xs))) (others : IsStrictlySorted (map key (y ∷ ys)))
    where
      heads_by : In x (y ∷ ys) → In y (x ∷ xs) → x ≡ y
      heads_by i j = elim (cons_in y ys i) [
        | inl e ↦ e
        | inr l ↦ elim (cons_in x xs j) [
          | inl e ↦ sym e
          | inr r ↦ absurd
              (not_both (key x) (key y)
              (below_all (key x) xs (sorted_head (slice_cmp nat_cmp) (key x) (map key xs) rising) y r)
              (below_all (key y) ys (sorted_head (slice_cmp nat_cmp) (key y) (map key ys) others) x
              l))
        ]
      ]

      -- what stands behind the first stands behind the other's first
      behind : x ≡ y → Includes (x ∷ xs) (y ∷ ys) → Includes xs ys
      behind same h z i = elim (cons_in y ys (h z (there i))) [
        | inl e ↦
            let l = below_all (key x) xs (sorted_head (slice_cmp nat_cmp) (key x) (map key xs) rising)
            z i in
            let m : Below (key z) (key z) = subst (λ w. Below (key w) (key z)) (same ∙ sym e) l in
            absurd (not_both (key z) (key z) m m)
        | inr j ↦ j
      ]

  pub one_order : (xs ys : List X) → IsStrictlySorted (map key xs) → IsStrictlySorted (map key ys)
      → Includes xs ys → Includes ys xs → xs ≡ ys
  one_order [] [] r o h g = refl
  one_order [] (y ∷ ys) r o h g = none_in (g y here)
  one_order (x ∷ xs) [] r o h g = none_in (h x here)
  one_order (x ∷ xs) (y ∷ ys) r o h g =
      let same = heads_by x xs y ys r o (h x here) (g y here) in
      let rest = one_order xs ys (sorted_tail (slice_cmp nat_cmp) (key x) (map key xs) r)
      (sorted_tail (slice_cmp nat_cmp) (key y) (map key ys) o) (behind x xs y ys r o same h)
      (behind y ys x xs o r (sym same) g) in
      λ i. same i ∷ rest i
