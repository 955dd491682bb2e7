-- Membership in lists, and what stands at a place of a list.
use Rattle.std.proofs.Common.{◌≡◌, ◌⊎◌, ℕ, zero, suc, true, ◌||◌, List, [], ◌∷◌, ◌++◌, length, Some, slice_get, inl, inr, refl, ap}
use Rattle.std.specs.Prelude.{slice_set}
use Rattle.std.proofs.lemmas.Bool.{eq-eqb}
use Rattle.seq.specs.Lists.{is_among}
use Rattle.seq.proofs.Counted.{among_later, among_cases}

-- ---- membership

pub among_first : (x y : ℕ) (ys : List ℕ) → x ≡ y → is_among x (y ∷ ys) ≡ true
among_first x y ys e = ap (λ b. b || is_among x ys) (eq-eqb x y e)

pub among_either : (x : ℕ) (xs ys : List ℕ) → is_among x (xs ++ ys) ≡ true → (is_among x xs ≡ true)
    ⊎ (is_among x ys ≡ true)
among_either x [] ys h = inr h
among_either x (z ∷ xs) ys h = elim (among_cases x z (xs ++ ys) h) [
  | inl e ↦ inl (among_first x z xs e)
  | inr m ↦
      elim (among_either x xs ys m) [
        | inl l ↦ inl (among_later x z xs l)
        | inr r ↦ inr r
      ]
]

-- ---- places of a list

pub got_after : {A : Type 0} (xs ys : List A) (x : A)
    → slice_get (xs ++ (x ∷ ys)) (length xs) ≡ Some x
got_after [] ys x = refl
got_after (z ∷ xs) ys x = got_after xs ys x

pub set_cases : {A : Type 0} (xs : List A) (i : ℕ) (v : A) (j : ℕ) → (i ≡ j)
    ⊎ (slice_get (slice_set xs i v) j ≡ slice_get xs j)
set_cases [] i v j = inr refl
set_cases (x ∷ xs) zero v zero = inl refl
set_cases (x ∷ xs) zero v (suc j) = inr refl
set_cases (x ∷ xs) (suc i) v zero = inr refl
set_cases (x ∷ xs) (suc i) v (suc j) = elim (set_cases xs i v j) [
  | inl e ↦ inl (ap suc e)
  | inr e ↦ inr e
]
