-- What holds of pieces of items, of which each has the label of its number.
use Rattle.std.proofs.Common.{◌≡◌, ℕ, zero, suc, ◌+◌, ◌*◌, ◌<◌, ◌≤◌, List, ◌++◌, inl, inr, refl, ap, ◌∙◌, nat_eq, arith}
use Rattle.std.specs.Prelude.{if◌then◌else◌}
use Rattle.std.proofs.lemmas.Bool.{cases_eq, eq-eqb, ne_eqb}
use Rattle.rv32_items.specs.declared.Item.{Item}
use Rattle.rv32_items.specs.Placed.{size_of, times}
use Rattle.test_layout.specs.Pieces.{pieces}
use Rattle.test_layout.proofs.Placeable.{Each, each_append}
use Rattle.rv32_items.proofs.Counted.{size_append, times_append}

-- how often the label l stands in a list whose one label is k
abbrev pub counts : (k l : ℕ) → ℕ
counts k l = if nat_eq k l then 1 else 0

none : (k l : ℕ) → (k ≡ l → ⊥) → counts k l ≡ 0
none k l h = ap (λ t. if t then 1 else 0) (ne_eqb k l h)

same : (k l : ℕ) → k ≡ l → counts k l ≡ 1
same k l h = ap (λ t. if t then 1 else 0) (eq-eqb k l h)

module _ (piece : ℕ → List Item) where
  pub each_piece : (P : Item → Type 0) (over : ℕ) → ((k : ℕ) → k < over → Each P (piece k))
      → (n : ℕ) → n ≤ over → Each P (pieces piece n)
  each_piece P over h zero le = tt
  each_piece P over h (suc n) le =
      each_append P (pieces piece n) (piece n) (each_piece P over h n (omega arith))
      (h n (omega arith))

  pub size_pieces : (each : ℕ) → ((k : ℕ) → size_of (piece k) ≡ each) → (n : ℕ)
      → size_of (pieces piece n) ≡ n * each
  size_pieces each h zero = omega arith
  size_pieces each h (suc n) =
      let a = size_append (pieces piece n) (piece n) in
      let b = size_pieces each h n in
      let c = h n in
      let d : n * each + each ≡ suc n * each = omega arith in
      a ∙ (ap (λ x. x + size_of (piece n)) b ∙ (ap (λ x. n * each + x) c ∙ d))

  module _ (l : ℕ) (labels : (k : ℕ) → times l (piece k) ≡ counts k l) where
    none_below : (n : ℕ) → n ≤ l → times l (pieces piece n) ≡ 0
    none_below zero h = refl
    none_below (suc n) h =
        let a = times_append l (pieces piece n) (piece n) in
        let b = none_below n (omega arith) in
        let c = labels n ∙ none n l (λ e. omega arith) in
        omega arith

    one_below : (n : ℕ) → l < n → times l (pieces piece n) ≡ 1
    one_below zero h = absurd (omega arith)
    one_below (suc n) h =
        let a = times_append l (pieces piece n) (piece n) in
        elim (cases_eq n l) [
          | inl e ↦
              let b = none_below n (omega arith) in
              let c = labels n ∙ same n l e in
              omega arith
          | inr ne ↦
              let b = one_below n (omega arith) in
              let c = labels n ∙ none n l ne in
              omega arith
        ]

    -- a label up to the last one stands once in the pieces and what follows them
    pub once : (count : ℕ) (last : List Item) → times l last ≡ counts count l → l ≤ count
        → times l (pieces piece count ++ last) ≡ 1
    once count last end h =
        let a = times_append l (pieces piece count) last in
        elim (cases_eq count l) [
          | inl e ↦
              let c = none_below count (omega arith) in
              let d = end ∙ same count l e in
              omega arith
          | inr ne ↦
              let c = one_below count (omega arith) in
              let d = end ∙ none count l ne in
              omega arith
        ]
