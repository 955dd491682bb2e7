-- Sets of numbers by sites, where one of them gets a number or an empty one comes.
use Rattle.std.proofs.Common.{◌≡◌, ◌<◌, ℕ, zero, suc, List, [], ◌∷◌, ◌++◌, length, get_or, slice_set, refl, sym, ap, ◌∙◌, subst, inl, inr, ⊎_elim, arith}
use Rattle.std.specs.Prelude.{◌⊎◌}
use Rattle.std.proofs.lemmas.Option.{slice_get_read}
use Rattle.points_to.specs.declared.bits.Bits.{Bits}
use Rattle.points_to.specs.Held.{In, here}
use Rattle.points_to.specs.Rows.{numbers_in, GainsMembers}
use Rattle.points_to.specs.Stored.{numbers_of, sets_at, PutsAtSite}
use Rattle.seq.proofs.Member.{one_in}
use Rattle.seq.proofs.Order.{same_or_not}

empty_more : (xs : List Bits) (s : Bits) → numbers_in s ≡ [] → (n : ℕ)
    → sets_at (xs ++ s ∷ []) n ≡ sets_at xs n
empty_more [] s e zero = e
empty_more [] s e (suc n) = refl
empty_more (x ∷ xs) s e zero = refl
empty_more (x ∷ xs) s e (suc n) = empty_more xs s e n

pub sets_grown : (zs xs : List Bits) (s : Bits) → numbers_in s ≡ [] → sets_at xs ≡ sets_at zs
    → sets_at (xs ++ s ∷ []) ≡ sets_at zs
sets_grown zs xs s e q = (λ i n. empty_more xs s e n i) ∙ q

set_same : (xs : List Bits) (n : ℕ) (s : Bits) → n < length xs
    → sets_at (slice_set xs n s) n ≡ numbers_in s
set_same [] n s lt = absurd (omega arith)
set_same (x ∷ xs) zero s lt = refl
set_same (x ∷ xs) (suc n) s lt = set_same xs n s (omega arith)

set_other : (xs : List Bits) (n m : ℕ) (s : Bits) → (m ≡ n → ⊥)
    → sets_at (slice_set xs n s) m ≡ sets_at xs m
set_other [] n m s ne = refl
set_other (x ∷ xs) zero zero s ne = absurd (ne refl)
set_other (x ∷ xs) zero (suc m) s ne = refl
set_other (x ∷ xs) (suc n) zero s ne = refl
set_other (x ∷ xs) (suc n) (suc m) s ne = set_other xs n m s (λ e. ne (ap suc e))

-- a number is put into the set of a site
pub stores_at : (xs : List Bits) (s n : ℕ) (old new : Bits) → s < length xs → old ≡ get_or xs s old
    → GainsMembers (numbers_in old) (numbers_in new) (n ∷ [])
    → PutsAtSite (sets_at xs) (sets_at (slice_set xs s new)) s n
stores_at xs s n old new lt e g = record {
  kept = λ r m h. ⊎_elim
      (λ z. subst (λ r. In m (sets_at (slice_set xs s new) r)) (sym z)
      (subst (In m) (sym new_is) (g.kept m (subst (In m) (ap (sets_at xs) z ∙ old_is) h))))
      (λ z. subst (In m) (sym (set_other xs s r new z)) h)
      (same_or_not r s);
  put = subst (In n) (sym new_is) (g.put n here);
  only = only;
}
  where
    old_is : sets_at xs s ≡ numbers_in old
    old_is = ap numbers_of (slice_get_read xs (length xs) s old refl lt e)

    new_is : sets_at (slice_set xs s new) s ≡ numbers_in new
    new_is = set_same xs s new lt

    only : (r m : ℕ) → In m (sets_at (slice_set xs s new) r) → In m (sets_at xs r)
        ⊎ ((r ≡ s) × (m ≡ n))
    only r m h = ⊎_elim
        (λ z. ⊎_elim (λ a. inl (subst (In m) (sym (ap (sets_at xs) z ∙ old_is)) a))
        (λ b. inr (z, one_in n b))
        (g.only m (subst (In m) (ap (sets_at (slice_set xs s new)) z ∙ new_is) h)))
        (λ z. inl (subst (In m) (set_other xs s r new z) h))
        (same_or_not r s)
