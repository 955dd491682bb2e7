-- Small facts on numbers that are compared, on lists, and on lists of pairs.
use Rattle.std.proofs.Common.{◌≡◌, ◌<◌, ℕ, zero, suc, cond, List, [], ◌∷◌, ◌++◌, length, get_or, Some, slice_get, slice_set, refl, sym, ap, subst, ⊎_elim, inl, inr, arith}
use Rattle.std.specs.Prelude.{if◌then◌else◌, ◌==◌, ◌⊎◌}
use Rattle.seq.specs.Lists.{In, here, there}
use Rattle.seq.proofs.Lists.{some_is, none_is_some}
use Rattle.seq.proofs.Order.{eq_self, eq_false}

pub if_same : {X : Type 0} (a : ℕ) (x y : X) → (if a == a then x else y) ≡ x
if_same a x y = ap (λ b. cond b x y) (eq_self a)

pub if_not : {X : Type 0} (r a : ℕ) (x y : X) → (r ≡ a → ⊥) → (if r == a then x else y) ≡ y
if_not r a x y q = ap (λ b. cond b x y) (eq_false r a q)

-- lists where an item is set or put at the end
pub set_other : {X : Type 0} (xs : List X) (n m : ℕ) (x : X) → (m ≡ n → ⊥)
    → slice_get (slice_set xs n x) m ≡ slice_get xs m
set_other [] n m x ne = refl
set_other (y ∷ xs) zero zero x ne = absurd (ne refl)
set_other (y ∷ xs) zero (suc m) x ne = refl
set_other (y ∷ xs) (suc n) zero x ne = refl
set_other (y ∷ xs) (suc n) (suc m) x ne = set_other xs n m x (λ e. ne (ap suc e))

pub at_pushed : {X : Type 0} (xs : List X) (x y : X) (m : ℕ) → slice_get (xs ++ x ∷ []) m ≡ Some y
    → (slice_get xs m ≡ Some y) ⊎ ((m ≡ length xs) × (y ≡ x))
at_pushed [] x y zero e = inr (refl, sym (some_is e))
at_pushed [] x y (suc m) e = none_is_some e
at_pushed (z ∷ xs) x y zero e = inl e
at_pushed (z ∷ xs) x y (suc m) e = ⊎_elim (λ a. inl a) (λ b. inr (ap suc b.0, b.1))
    (at_pushed xs x y m e)

-- items in places, as they are read from lists of numbers
pub read_at : (xs : List ℕ) (i : ℕ) → i < length xs → slice_get xs i ≡ Some (get_or xs i 0)
read_at [] i l = absurd (omega arith)
read_at (x ∷ xs) zero l = refl
read_at (x ∷ xs) (suc i) l = read_at xs i (omega arith)

pub get_in : {X : Type 0} (xs : List X) (i : ℕ) (x : X) → slice_get xs i ≡ Some x → In x xs
get_in [] i x e = none_is_some e
get_in (y ∷ xs) zero x e = subst (λ z. In z (y ∷ xs)) (some_is e) here
get_in (y ∷ xs) (suc i) x e = there (get_in xs i x e)
