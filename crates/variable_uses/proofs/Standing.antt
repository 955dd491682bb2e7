-- Lists in which a walk stands, and whether a number is among those at a place.
use Rattle.std.proofs.Common.{◌≡◌, ℕ, zero, suc, ◌+◌, ◌-◌, ◌<◌, ◌≤◌, true, List, [], ◌∷◌, ◌++◌, drop, length, length-append, length-drop, slice_index_or, inl, inr, refl, sym, ap, ◌∙◌, subst, arith}
use Rattle.std.proofs.Math.Seq.{drop-nil}
use Rattle.seq.proofs.Lists.{drop_before, append_again}
use Rattle.seq.specs.Lists.{is_among}
use Rattle.seq.proofs.Counted.{among_first, among_later, among_cases}
use Rattle.variable_uses.specs.Uses.{IsUsedWithin}
use Rattle.variable_uses.specs.Stands.{ListSegmentAt}

-- ---- standing in a list

pub drop_more : {A : Type 0} (items : List A) (k n : ℕ) → drop (k + n) items ≡ drop n (drop k items)
drop_more items zero n = let e : 0 + n ≡ n = omega arith in ap (λ j. drop j items) e
drop_more [] (suc k) n = drop-nil (suc k + n) ∙ sym (drop-nil n) ∙ ap (drop n)
    (sym (drop-nil (suc k)))
drop_more (x ∷ items) (suc k) n = let e : suc k + n ≡ suc (k + n) = omega arith
    in ap (λ j. drop j (x ∷ items)) e ∙ drop_more items k n

pub stands_first : {A : Type 0} (items : List A) (at : ℕ) (xs ys : List A)
    → ListSegmentAt items at (xs ++ ys) → ListSegmentAt items at xs
stands_first items at xs ys s = record
    { after = ys ++ s.after; is = s.is ∙ append_again xs ys s.after }

pub stands_rest : {A : Type 0} (items : List A) (at : ℕ) (xs ys : List A)
    → ListSegmentAt items at (xs ++ ys) → ListSegmentAt items (at + length xs) ys
stands_rest items at xs ys s = record {
  after = s.after;
  is = drop_more items at (length xs) ∙ ap (drop (length xs)) (s.is ∙ append_again xs ys s.after) ∙
      drop_before xs (ys ++ s.after);
}

pub stands_all : {A : Type 0} (items : List A) → ListSegmentAt items 0 items
stands_all items = record { after = []; is = end items }
  where
    end : {A : Type 0} (xs : List A) → xs ≡ xs ++ []
    end [] = refl
    end (x ∷ xs) = ap (λ l. x ∷ l) (end xs)

at_drop : (items : List ℕ) (k j : ℕ) → slice_index_or items (k + j) 0 ≡ slice_index_or
    (drop k items) j 0
at_drop items zero j = let e : 0 + j ≡ j = omega arith in ap (λ n. slice_index_or items n 0) e
at_drop [] (suc k) j = ap (λ l. slice_index_or l j 0) (sym (drop-nil (suc k)))
at_drop (x ∷ items) (suc k) j = let e : suc k + j ≡ suc (k + j) = omega arith
    in ap (λ n. slice_index_or (x ∷ items) n 0) e ∙ at_drop items k j

pub index_first : (xs ys : List ℕ) (j : ℕ) → j < length xs
    → slice_index_or (xs ++ ys) j 0 ≡ slice_index_or xs j 0
index_first [] ys j h = absurd (omega arith)
index_first (z ∷ xs) ys zero h = refl
index_first (z ∷ xs) ys (suc j) h = index_first xs ys j (omega arith)

among_at : (xs : List ℕ) (j y : ℕ) → j < length xs → slice_index_or xs j 0 ≡ y
    → is_among y xs ≡ true
among_at [] j y h e = absurd (omega arith)
among_at (x ∷ xs) zero y h e = subst (λ n. is_among n (x ∷ xs) ≡ true) e (among_first x xs)
among_at (x ∷ xs) (suc j) y h e = among_later y x xs (among_at xs j y (omega arith) e)

at_among : (xs : List ℕ) (y : ℕ) → is_among y xs ≡ true → (j : ℕ)
    × ((j < length xs) × (slice_index_or xs j 0 ≡ y))
at_among [] y h = cc
at_among (x ∷ xs) y h = elim (among_cases y x xs h) [
  | inl e ↦ (0, (omega arith, sym e))
  | inr m ↦ let r = at_among xs y m in (suc r.0, (omega (arith, r.1.0), r.1.1))
]

-- the size of an inner block
pub stands_head : (items : List ℕ) (at n : ℕ) (rest : List ℕ) → ListSegmentAt items at (n ∷ rest)
    → slice_index_or items at 0 ≡ n
stands_head items at n rest s =
    let e : at ≡ at + 0 = omega arith in
    ap (λ j. slice_index_or items j 0) e ∙ at_drop items at 0 ∙ ap (λ l. slice_index_or l 0 0) s.is

module _ (used : List ℕ) (at : ℕ) (part : List ℕ) (s : ListSegmentAt used at part) (y : ℕ) where
  in_part : (j : ℕ) → j < length part → slice_index_or used (at + j) 0 ≡ slice_index_or part j 0
  in_part j h = at_drop used at j ∙ ap (λ l. slice_index_or l j 0) s.is ∙ index_first part s.after j
      h

  enough : (j : ℕ) → j < length part → at + j < length used
  enough j h =
      let e : length used - at ≡ length part + length s.after
      = sym (length-drop at used) ∙ ap length s.is ∙ length-append part s.after in
      omega (arith, e, h)

  pub used_among : IsUsedWithin used y at (at + length part) → is_among y part ≡ true
  used_among w =
      let from : at ≤ w.0 = w.1.0 in
      let to : w.0 < at + length part = w.1.1.0 in
      let k : w.0 ≡ at + (w.0 - at) = omega (arith, from) in
      let lt : w.0 - at < length part = omega (arith, from, to) in
      among_at part (w.0 - at) y lt
      (sym (in_part (w.0 - at) lt) ∙ ap (λ n. slice_index_or used n 0) (sym k) ∙ w.1.1.1.1)

  pub among_used : is_among y part ≡ true → IsUsedWithin used y at (at + length part)
  among_used m =
      let j = at_among part y m in
      let lt : j.0 < length part = j.1.0 in
      (at + j.0, (omega arith, (omega (arith, lt), (enough j.0 lt, in_part j.0 lt ∙ j.1.1))))
