-- The label of an item stands once, and its first place is its only one.
use Rattle.std.proofs.Common.{◌≡◌, ℕ, zero, suc, ◌+◌, Bool, true, false, List, [], ◌∷◌, Some, slice_get, nat_eq, refl, ap, ◌∙◌, arith}
use Rattle.std.specs.Prelude.{if◌then◌else◌}
use Rattle.std.proofs.lemmas.Bool.{eqb-true, eqb-false, eq-eqb}
use Rattle.std.proofs.lemmas.Option.{same_Some}
use Rattle.rv32_items.specs.declared.Item.{Item}
use Rattle.rv32_items.specs.declared.Item.TheVariants.{Label, Plain, Branch, Jump}
use Rattle.rv32_items.specs.Course.{is_label, label_from}
use Rattle.rv32_items.specs.Placed.{times, LabelIsOnlyAt}

abbrev label_is : ℕ → Item → Type 0
label_is l i = i ≡ Label l

-- a label that stands nowhere
no_label : (l : ℕ) (items : List Item) → times l items ≡ 0 → (k : ℕ)
    → slice_get items k ≡ Some (Label l) → ⊥
no_label l [] z k h = cc
no_label l (Label j ∷ items) z zero h =
    let e : j ≡ l = cc in
    absurd (at (nat_eq j l) (eq-eqb j l e) z)
  where
    at : (b : Bool) → b ≡ true → (if b then suc (times l items) else times l items) ≡ 0 → ⊥
    at true e z = omega arith
    at false e z = cc
no_label l (Label j ∷ items) z (suc k) h = no_label l items (at (nat_eq j l) z) k h
  where
    at : (b : Bool) → (if b then suc (times l items) else times l items) ≡ 0 → times l items ≡ 0
    at true z = absurd (omega arith)
    at false z = z
no_label l (Plain i ∷ items) z zero h = cc
no_label l (Plain i ∷ items) z (suc k) h = no_label l items z k h
no_label l (Branch c a b t ∷ items) z zero h = cc
no_label l (Branch c a b t ∷ items) z (suc k) h = no_label l items z k h
no_label l (Jump t j ∷ items) z zero h = cc
no_label l (Jump t j ∷ items) z (suc k) h = no_label l items z k h

-- where a label stands, counted from m: it is found there, and nowhere else
record Found (l m : ℕ) (items : List Item) : Type 0 where
  pub at : ℕ
  pub first : label_from m items l ≡ Some (m + at)
  pub here : slice_get items at ≡ Some (Label l)
  pub once : (k : ℕ) → slice_get items k ≡ Some (Label l) → k ≡ at

later : (l m : ℕ) (i : Item) (items : List Item) → is_label l i ≡ false → (i ≡ Label l → ⊥)
    → Found l (suc m) items → Found l m (i ∷ items)
later l m i items miss other f = record {
  at = suc f.at;
  first =
      let e : suc m + f.at ≡ m + suc f.at = omega arith in
      ap (λ b. if b then Some m else label_from (suc m) items l) miss ∙ f.first ∙ ap (λ n. Some n)
      e;
  here = f.here;
  once = once;
}
  where
    once : (k : ℕ) → slice_get (i ∷ items) k ≡ Some (Label l) → k ≡ suc f.at
    once zero h = absurd (other (same_Some _ _ h))
    once (suc k) h = ap suc (f.once k h)

found_here : (l m j : ℕ) (items : List Item) → j ≡ l → nat_eq j l ≡ true → times l items ≡ 0
    → Found l m (Label j ∷ items)
found_here l m j items e hit none = record {
  at = 0;
  first =
      let z : m ≡ m + 0 = omega arith in
      ap (λ b. if b then Some m else label_from (suc m) items l) hit ∙ ap (λ n. Some n) z;
  here = ap (λ n. Some (Label n)) e;
  once = only;
}
  where
    only : (k : ℕ) → slice_get (Label j ∷ items) k ≡ Some (Label l) → k ≡ 0
    only zero h = refl
    only (suc k) h = absurd (no_label l items none k h)

found_label : (l m j : ℕ) (items : List Item) → (times l items ≡ 1 → Found l (suc m) items)
    → (b : Bool) → nat_eq j l ≡ b → (if b then suc (times l items) else times l items) ≡ 1
    → Found l m (Label j ∷ items)
found_label l m j items rest true hit h = found_here l m j items (eqb-true j l hit) hit
    (omega arith)
found_label l m j items rest false miss h = later l m (Label j) items miss
    (λ e. let s : j ≡ l = cc in eqb-false j l miss s) (rest h)

found : (l m : ℕ) (items : List Item) → times l items ≡ 1 → Found l m items
found l m [] h = absurd (omega arith)
found l m (Label j ∷ items) h = found_label l m j items (λ r. found l (suc m) items r) (nat_eq j l)
    refl h
found l m (Plain i ∷ items) h = later l m (Plain i) items refl (λ e. cc) (found l (suc m) items h)
found l m (Branch c a b t ∷ items) h = later l m (Branch c a b t) items refl (λ e. cc)
    (found l (suc m) items h)
found l m (Jump t j ∷ items) h = later l m (Jump t j) items refl (λ e. cc) (found l (suc m) items h)

-- a label that stands once: the number of its item
pub stands : (l : ℕ) (items : List Item) → times l items ≡ 1 → (n : ℕ)
    × ((label_from 0 items l ≡ Some n) × LabelIsOnlyAt items l n)
stands l items h =
    let f = found l 0 items h in
    let e : 0 + f.at ≡ f.at = omega arith in
    (f.at, (f.first ∙ ap (λ n. Some n) e, record { here = f.here; once = f.once }))
