-- The table of labels: what it knows once an item is noted, and that it has the goal of each item.
use Rattle.std.proofs.Common.{◌≡◌, ℕ, ◌+◌, ◌≤◌, Bool, true, false, List, length, Some, slice_get, inl, inr, refl, sym, ap, ◌∙◌, subst, arith}
use Rattle.std.specs.Prelude.{IsSome, unwrap_or, if◌then◌else◌}
use Rattle.std.proofs.lemmas.Bool.{cases_eq, eqb-true, eq-eqb, true≢false}
use Rattle.std.proofs.lemmas.Option.{same_Some, slice_get_within}
use Rattle.rv32_items.specs.declared.Item.{Item}
use Rattle.rv32_items.specs.declared.Item.TheVariants.{Label, Plain, Branch, Jump}
use Rattle.rv32_items.specs.Placed.{size_of, target_of, LabelsStand, LabelIsOnlyAt, times}
use Rattle.rv32_items.specs.Course.{is_label, label_from}
use Rattle.rv32_layout.specs.declared.form.Way.{Way}
use Rattle.rv32_layout.specs.declared.spots.Spots.{Spots}
use Rattle.rv32_layout.specs.Places.{place, goal}
use Rattle.rv32_layout.specs.Spots.{find, KnowsLabelSpots, RecordsLabelSpot, HasSpot, spot_of}
use Rattle.rv32_layout.proofs.Counts.{place_none, place_le}
use Rattle.rv32_items.proofs.Stands.{stands}

label_true : (l : ℕ) (i : Item) → is_label l i ≡ true → i ≡ Label l
label_true l (Label k) h = ap (λ n. Label n) (eqb-true k l h)
label_true l (Plain i) h = absurd (true≢false (sym h))
label_true l (Branch c a b t) h = absurd (true≢false (sym h))
label_true l (Jump t j) h = absurd (true≢false (sym h))

-- where the first places are known and the next item is noted, one more is known
module _ (items : List Item) (ways : List Way) (i : ℕ) (x : Item) (at : ℕ) (old new : Spots) where
  pub place_noted : slice_get items i ≡ Some x → RecordsLabelSpot x at old new
      → at ≡ place ways items i → KnowsLabelSpots items ways i old
      → KnowsLabelSpots items ways (i + 1) new
  place_noted here notes at_is known l n s lt = elim (cases_eq i n) [
    | inl e ↦
        let same : x ≡ Label l = same_Some _ _ (sym here ∙ ap (λ k. slice_get items k) e ∙ s.here)
        in
        let hit : is_label l x ≡ true = ap (is_label l) same ∙ eq-eqb l l refl in
        notes l ∙ ap (λ t. if t then Some at else find old l) hit ∙ ap (λ p. Some p)
        (at_is ∙ ap (place ways items) e)
    | inr ne ↦ notes l ∙ missed l n s ne (is_label l x) refl ∙ known l n s (omega arith)
  ]
    where
      missed : (l n : ℕ) → LabelIsOnlyAt items l n → (i ≡ n → ⊥) → (t : Bool) → is_label l x ≡ t
          → (if t then Some at else find old l) ≡ find old l
      missed l n s ne true hit = absurd
          (ne (s.once i (here ∙ ap (λ y. Some y) (label_true l x hit))))
      missed l n s ne false miss = refl

-- a label that stands once is in the table
module _ (items : List Item) (ways : List Way) (table : Spots)
    (known : KnowsLabelSpots items ways (length items) table) where
  pub in_table : (l : ℕ) → times l items ≡ 1 → find table l ≡ Some
      (place ways items (unwrap_or (label_from 0 items l) 0))
  in_table l once =
      let f = stands l items once in
      let at : unwrap_or (label_from 0 items l) 0 ≡ f.0 = ap (λ o. unwrap_or o 0) f.1.0 in
      known l f.0 f.1.1 (slice_get_within items f.0 (Label l) f.1.1.here) ∙ ap
      (λ n. Some (place ways items n)) (sym at)

  -- and so many words are at most before it
  pub has_spot : size_of items ≤ 268435456 → (l : ℕ) → times l items ≡ 1 → HasSpot table l
  has_spot few l once =
      let at = place ways items (unwrap_or (label_from 0 items l) 0) in
      (at, in_table l once, omega (arith, place_le ways items (unwrap_or (label_from 0 items l) 0)))

  pub has_target : LabelsStand items → (n : ℕ) (x : Item) → slice_get items n ≡ Some x → (l : ℕ)
      → target_of x ≡ Some l → IsSome (find table l)
  has_target labels n x e l t = subst (λ o. IsSome o) (sym (in_table l (labels n l x e t))) refl

  spot_is : LabelsStand items → (n : ℕ) (x : Item) → slice_get items n ≡ Some x
      → spot_of table x ≡ place ways items (goal items x)
  spot_is labels n (Label l) e = sym (place_none ways items)
  spot_is labels n (Plain i) e = sym (place_none ways items)
  spot_is labels n (Branch c a b l) e = ap (λ o. unwrap_or o 0)
      (in_table l (labels n l (Branch c a b l) e refl))
  spot_is labels n (Jump k l) e = ap (λ o. unwrap_or o 0)
      (in_table l (labels n l (Jump k l) e refl))

  pub target_is : LabelsStand items → (n : ℕ) (x : Item) → slice_get items n ≡ Some x → (to : ℕ)
      → to ≡ spot_of table x → to ≡ place ways items (goal items x)
  target_is labels n x e to is = is ∙ spot_is labels n x e
