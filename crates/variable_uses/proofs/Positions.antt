-- The uses of variables, found by their order.
use Rattle.std.proofs.Common.{◌≡◌, ◌↔◌, ◌⊎◌, ℕ, zero, suc, ◌+◌, ◌<◌, ◌≤◌, Bool, true, false, List, [], ◌∷◌, ◌++◌, length, length-append, Some, slice_get, slice_index_or, inl, inr, refl, sym, ap, ◌∙◌, subst, arith}
use Rattle.std.specs.List.Sorted.{IsPermutation, IsSorted, IsPartitionedBy, IsPartitionPoint, apply_swaps}
use Rattle.std.specs.Ordering.{is_lt, is_some_and, partial_lt, nat_cmp, ordering_then, partial_ordering_then, ordering_index}
use Rattle.variable_uses.specs.contracts.uses.UsePartialOrd.TheImpl as use_partial_ord
use Rattle.std.specs.declared.cmp.Ordering.{Ordering}
use Rattle.std.specs.declared.cmp.Ordering.TheVariants.{Less, Equal, Greater}
use Rattle.std.proofs.lemmas.Grind.{get_or_moved}
use Rattle.std.proofs.lemmas.List.Sorted.{IsPermutation-sym, searchable_from_sorted}
use Rattle.std.specs.Cmp.{IsTotalOrder}
use Rattle.std.proofs.lemmas.Cmp.{nat_cmp_total, on_total, then_total}
use Rattle.std.proofs.lemmas.Bool.{cases_lt}
use Rattle.std.proofs.lemmas.Bool.Decides.{nat_tests}
use Rattle.std.proofs.lemmas.Option.{same_Some, slice_get_within, slice_get-get_or, get_or_from_slice_get}
use Rattle.variable_uses.specs.declared.uses.Use.{Use}
use Rattle.variable_uses.specs.declared.uses.Uses.{Uses}
use Rattle.variable_uses.specs.Uses.{AreUses, IsUsedWithin, use_order, used_at}

-- ---- the order

in_order_total : IsTotalOrder use_order
in_order_total = then_total (on_total (λ u. u.variable) nat_cmp_total)
    (on_total (λ u. u.at) nat_cmp_total)

abbrev pub is_before : Use → Use → Bool
is_before v u = is_lt (use_order u v)

-- what `<` answers
pub before_is : (v u : Use) → partial_lt use_partial_ord.partial_cmp-value.it u v ≡ is_before v u
before_is v u = both (nat_cmp u.variable v.variable) (nat_cmp u.at v.at)
  where
    both : (a b : Ordering) → is_some_and is_lt (partial_ordering_then (Some a) (Some b)) ≡ is_lt
        (ordering_then a b)
    both Less b = refl
    both Equal b = refl
    both Greater b = refl

-- what comes before a use comes before it in a sorted list
pub parted : (us : List Use) (v : Use) → IsSorted use_order us → IsPartitionedBy (is_before v) us
parted us v sorted i j d le lt before =
    let rise : ordering_index (use_order (slice_index_or us i d) v) ≤ ordering_index
    (use_order (slice_index_or us j d) v) = searchable_from_sorted in_order_total (λ u. u) us v
    sorted i j d le lt in
    lower (use_order (slice_index_or us i d) v) (use_order (slice_index_or us j d) v) rise before
  where
    lower : (a b : Ordering) → ordering_index a ≤ ordering_index b → is_lt b ≡ true → is_lt a ≡ true
    lower Less b h e = refl
    lower Equal Less h e = absurd (omega arith)
    lower Greater Less h e = absurd (omega arith)
    lower Equal Equal h e = cc
    lower Equal Greater h e = cc
    lower Greater Equal h e = cc
    lower Greater Greater h e = cc

-- of two positions of one variable the lower one comes before
lower_first : (x p q : ℕ) → p < q → is_before (record { variable = x; at = q })
    (record { variable = x; at = p }) ≡ true
lower_first x p q lt = grind (arith, nat_tests)

not_first : (x p q : ℕ) → q ≤ p → is_before (record { variable = x; at = q })
    (record { variable = x; at = p }) ≡ false
not_first x p q le = grind (arith, nat_tests)

-- what lies between two positions of a variable is a use of it
between : (u : Use) (x from to : ℕ) → is_before (record { variable = x; at = from }) u ≡ false
    → is_before (record { variable = x; at = to }) u ≡ true
    → (u.variable ≡ x) × ((from ≤ u.at) × (u.at < to))
between u x from to a b = grind (arith, nat_tests)

-- ---- uses in another order

moved : (us vs : List Use) → IsPermutation us vs → (k : ℕ) (v : Use) → slice_get vs k ≡ Some v
    → (j : ℕ) × (slice_get us j ≡ Some v)
moved us vs h k v there =
    let lt : k < length vs = slice_get_within vs k v there in
    let at : k < length (apply_swaps us h.moves) = subst (λ zs. k < length zs) h.is lt in
    let m = (get_or_moved us h.moves k v h.below at).1 in
    let is : slice_index_or us m.0 v ≡ v = sym (ap (λ zs. slice_index_or zs k v) h.is ∙ m.2) ∙
    get_or_from_slice_get vs k v v there in
    (m.0, slice_get-get_or us m.0 v m.1 ∙ ap Some is)

pub are_uses : (used : List ℕ) (us : List Use) (u : Uses)
    → ((p : ℕ) → p < length used → slice_get us p ≡ Some
    (record { variable = used_at used p; at = p })) → length us ≡ length used
    → IsPermutation us u.uses.items → IsSorted use_order u.uses.items → AreUses used u
are_uses used us u is count p ascending = record {
  ascending = ascending;
  each = λ k lt. moved u.uses.items us (IsPermutation-sym us u.uses.items p) k _ (is k lt);
  only = λ i v there.
      let m = moved us u.uses.items p i v there in
      let lt : m.0 < length used = subst (λ n. m.0 < n) count (slice_get_within us m.0 v m.1) in
      let same : v ≡ record { variable = used_at used m.0; at = m.0 }
      = same_Some _ _ (sym m.1 ∙ is m.0 lt) in (
        subst (λ w. w.at < length used) (sym same) lt,
        subst (λ w. used_at used w.at ≡ w.variable) (sym same) refl,
      );
}

-- one more use
get_before : (us : List Use) (v : Use) (j : ℕ) → j < length us
    → slice_get (us ++ (v ∷ [])) j ≡ slice_get us j
get_before [] v j h = absurd (omega arith)
get_before (u ∷ us) v zero h = refl
get_before (u ∷ us) v (suc j) h = get_before us v j (omega arith)

get_last : (us : List Use) (v : Use) (j : ℕ) → j ≡ length us → slice_get (us ++ (v ∷ [])) j ≡ Some v
get_last [] v zero h = refl
get_last [] v (suc j) h = absurd (omega arith)
get_last (u ∷ us) v zero h = absurd (omega arith)
get_last (u ∷ us) v (suc j) h = get_last us v j (omega arith)

pub uses_next : (used : List ℕ) (us new : List Use) (at : ℕ) (v : Use) → new ≡ us ++ (v ∷ [])
    → length us ≡ at → v.variable ≡ used_at used at → v.at ≡ at
    → ((p : ℕ) → p < at → slice_get us p ≡ Some (record { variable = used_at used p; at = p }))
    → (p : ℕ) → p < at + 1 → slice_get new p ≡ Some
    (record { variable = used_at used p; at = p })
uses_next used us new at v is count variable place each p lt
    = ap (λ l. slice_get l p) is ∙ at_last (cases_lt p at)
  where
    at_last : (p < at) ⊎ (at ≤ p) → slice_get (us ++ (v ∷ [])) p ≡ Some
        (record { variable = used_at used p; at = p })
    at_last (inl below) = get_before us v p (omega arith) ∙ each p below
    at_last (inr past) =
        let here : p ≡ at = omega arith in
        let this : v ≡ record { variable = used_at used at; at = at }
        = λ i. record { variable = variable i; at = place i } in
        get_last us v p (here ∙ sym count) ∙ ap Some this ∙ ap
        (λ j. Some (record { variable = used_at used j; at = j })) (sym here)

pub uses_many : (us new : List Use) (at : ℕ) (v : Use) → new ≡ us ++ (v ∷ []) → length us ≡ at
    → length new ≡ at + 1
uses_many us new at v is count = ap length is ∙ omega (arith, length-append us (v ∷ []), count)

-- ---- what the search answers

module _ (used : List ℕ) (u : Uses) (h : AreUses used u) (x from to next : ℕ)
    (point : IsPartitionPoint (λ v. is_before (record { variable = x; at = from }) v ≡ true)
    (λ v. is_before (record { variable = x; at = from }) v ≡ false) u.uses.items next) where
  -- the first use from `from` on is before `to`
  next_within : (v : Use) → slice_get u.uses.items next ≡ Some v
      → is_before (record { variable = x; at = to }) v ≡ true → IsUsedWithin used x from to
  next_within v there below =
      let after : is_before (record { variable = x; at = from }) v ≡ false =
      subst (λ w. is_before (record { variable = x; at = from }) w ≡ false)
      (get_or_from_slice_get u.uses.items next v v there)
      (point.1 next v (omega arith) (slice_get_within u.uses.items next v there)) in
      let b = between v x from to after below in
      let o = h.only next v there in
      (v.at, (b.1.0, (b.1.1, (o.0, o.1 ∙ b.0))))

  -- where x is used within, there is a use from `from` on, and the first one is before `to`
  then_next : IsUsedWithin used x from to → (next < length u.uses.items)
      × ((d : Use) → is_before (record { variable = x; at = to })
      (slice_index_or u.uses.items next d) ≡ true)
  then_next w =
      let e = h.each w.0 w.1.1.1.0 in
      let v : Use = record { variable = x; at = w.0 } in
      let is : slice_get u.uses.items e.0 ≡ Some v = e.1 ∙ ap
      (λ y. Some (record { variable = y; at = w.0 })) w.1.1.1.1 in
      let lt : e.0 < length u.uses.items = slice_get_within u.uses.items e.0 v is in
      let late : is_before (record { variable = x; at = from }) v ≡ false
      = not_first x w.0 from w.1.0 in
      let soon : is_before (record { variable = x; at = to }) v ≡ true
      = lower_first x w.0 to w.1.1.0 in
      elim (cases_lt e.0 next) [
        | inl less ↦
            let early : is_before (record { variable = x; at = from }) v ≡ true =
            subst (λ y. is_before (record { variable = x; at = from }) y ≡ true)
            (get_or_from_slice_get u.uses.items e.0 v v is) (point.0 e.0 v (omega arith) less)
            in
            let wrong : true ≡ false = sym early ∙ late in
            cc
        | inr ge ↦ (
          omega arith,
          λ d. parted u.uses.items (record { variable = x; at = to }) h.ascending next e.0 d ge lt
              (subst (λ y. is_before (record { variable = x; at = to }) y ≡ true)
              (sym (get_or_from_slice_get u.uses.items e.0 v d is)) soon),
        )
      ]

  pub within_next : (v : Use) → slice_get u.uses.items next ≡ Some v
      → (is_before (record { variable = x; at = to }) v ≡ true) ↔ IsUsedWithin used x from to
  within_next v there = (
    λ below. next_within v there below,
    λ w. subst (λ y. is_before (record { variable = x; at = to }) y ≡ true)
        (get_or_from_slice_get u.uses.items next v v there) ((then_next w).1 v),
  )

  pub within_past : length u.uses.items ≤ next → IsUsedWithin used x from to → ⊥
  within_past past w = let t = (then_next w).0 in omega arith
