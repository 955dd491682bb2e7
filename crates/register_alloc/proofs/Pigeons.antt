-- Ascending numbers that are all in a list are no more than that list has.
use Rattle.std.proofs.Common.{◌≡◌, ◌⊎◌, ℕ, suc, ◌≤◌, ◌<◌, Bool, true, false, nat_eq, List, [], ◌∷◌, length, inl, inr, refl, sym, ap, ◌∙◌, arith, cond}
use Rattle.std.proofs.lemmas.Bool.{eqb-true, eq-eqb}
use Rattle.register_alloc.specs.Fits.{Ascending}
use Rattle.register_alloc.proofs.Lists.{among_first}
use Rattle.seq.specs.Lists.{is_among}
use Rattle.seq.proofs.Counted.{among_later, among_cases}

abbrev without : ℕ → List ℕ → List ℕ
without r [] = []
without r (x ∷ xs) = cond (nat_eq r x) xs (x ∷ without r xs)

without_length : (r : ℕ) (xs : List ℕ) → is_among r xs ≡ true
    → suc (length (without r xs)) ≡ length xs
without_length r [] m = cc
without_length r (x ∷ xs) m = go (nat_eq r x) refl (among_cases r x xs m)
    (λ h. without_length r xs h)
  where
    go : (b : Bool) → nat_eq r x ≡ b → (r ≡ x) ⊎ (is_among r xs ≡ true)
        → (is_among r xs ≡ true → suc (length (without r xs)) ≡ length xs)
        → suc (length (cond (nat_eq r x) xs (x ∷ without r xs))) ≡ suc (length xs)
    go true e h more = ap (λ b. suc (length (cond b xs (x ∷ without r xs)))) e
    go false e (inr h) more = ap (λ b. suc (length (cond b xs (x ∷ without r xs)))) e ∙ ap suc
        (more h)
    go false e (inl h) more = let z : true ≡ false = sym (eq-eqb r x h) ∙ e in cc

without_among : (r y : ℕ) (xs : List ℕ) → (y ≡ r → ⊥) → is_among y xs ≡ true
    → is_among y (without r xs) ≡ true
without_among r y [] n m = cc
without_among r y (x ∷ xs) n m = go (nat_eq r x) refl (among_cases y x xs m)
    (λ h. without_among r y xs n h)
  where
    go : (b : Bool) → nat_eq r x ≡ b → (y ≡ x) ⊎ (is_among y xs ≡ true)
        → (is_among y xs ≡ true → is_among y (without r xs) ≡ true)
        → is_among y (cond (nat_eq r x) xs (x ∷ without r xs)) ≡ true
    go true e (inl h) more = absurd (n (h ∙ sym (eqb-true r x e)))
    go true e (inr h) more = ap (λ b. is_among y (cond b xs (x ∷ without r xs))) e ∙ h
    go false e (inl h) more = ap (λ b. is_among y (cond b xs (x ∷ without r xs))) e ∙ among_first y
        x (without r xs) h
    go false e (inr h) more = ap (λ b. is_among y (cond b xs (x ∷ without r xs))) e ∙ among_later y
        x (without r xs) (more h)

pub head_below : (r : ℕ) (rs : List ℕ) (y : ℕ) → Ascending (r ∷ rs) → is_among y rs ≡ true → r < y
head_below r [] y a m = cc
head_below r (q ∷ rs) y a m = elim (among_cases y q rs m) [
  | inl e ↦ let l = a.0 in omega (arith, l, e)
  | inr there ↦ let l = a.0 in let h = head_below q rs y a.1 there in omega (arith, l, h)
]

pub rest_ascends : (r : ℕ) (rs : List ℕ) → Ascending (r ∷ rs) → Ascending rs
rest_ascends r [] a = tt
rest_ascends r (q ∷ rs) a = a.1

pub no_more : (rs xs : List ℕ) → Ascending rs →
    ((r : ℕ) → is_among r rs ≡ true → is_among r xs ≡ true) → length rs ≤ length xs
no_more [] xs a all = omega arith
no_more (r ∷ rs) xs a all =
    let here : is_among r xs ≡ true = all r (among_first r r rs refl) in
    let n = without_length r xs here in
    let h = no_more rs (without r xs) (rest_ascends r rs a)
    (λ y m. without_among r y xs (λ e. let l = head_below r rs y a m in omega (arith, l, e))
    (all y (among_later y r rs m))) in
    omega (arith, n, h)
