-- Sets of numbers by their own number, and the inclusions that wait.
use Rattle.std.proofs.Common.{◌≡◌, ◌+◌, ◌<◌, ◌≤◌, ℕ, zero, suc, List, [], ◌∷◌, ◌++◌, length, get_or, slice_set, take, drop, refl, sym, ap, ◌∙◌, subst, inl, inr, ⊎_elim, arith}
use Rattle.std.proofs.lemmas.Option.{slice_get_read}
use Rattle.std.proofs.lemmas.List.{take_all, take_more, take-append-drop}
use Rattle.std.specs.List.{insert}
use Rattle.std.specs.Ordering.{nat_cmp}
use Rattle.std.specs.declared.cmp.Ordering.TheVariants.{Equal}
use Rattle.std.specs.FinMap.{nat_cmp-IsAntisymmetric}
use Rattle.flow_system.specs.declared.fact.Place.{Place}
use Rattle.points_to.specs.Held.{In, here, there}
use Rattle.points_to.specs.Rows.{GainsMember}
use Rattle.points_to.specs.Waiting.{place_slot, numbers_at, RegistersReader}
use Rattle.seq.proofs.Member.{cons_in, one_in, in_left, in_right, in_split}
use Rattle.seq.proofs.Order.{same_or_not}
use Rattle.seq.specs.Lists.{or_empty}

numbers_some : (xs : List (List ℕ)) (n : ℕ) (s : List ℕ) → n < length xs → s ≡ get_or xs n s
    → numbers_at xs n ≡ s
numbers_some xs n s lt e = ap or_empty (slice_get_read xs (length xs) n s refl lt e)

empty_more : (xs : List (List ℕ)) (s : List ℕ) → s ≡ [] → (n : ℕ)
    → numbers_at (xs ++ s ∷ []) n ≡ numbers_at xs n
empty_more [] s e zero = e
empty_more [] s e (suc n) = refl
empty_more (x ∷ xs) s e zero = refl
empty_more (x ∷ xs) s e (suc n) = empty_more xs s e n

pub numbers_grown : (zs xs : List (List ℕ)) (s : List ℕ) → s ≡ [] → numbers_at xs ≡ numbers_at zs
    → numbers_at (xs ++ s ∷ []) ≡ numbers_at zs
numbers_grown zs xs s e q = (λ i n. empty_more xs s e n i) ∙ q

set_same : (xs : List (List ℕ)) (n : ℕ) (s : List ℕ) → n < length xs
    → numbers_at (slice_set xs n s) n ≡ s
set_same [] n s lt = absurd (omega arith)
set_same (x ∷ xs) zero s lt = refl
set_same (x ∷ xs) (suc n) s lt = set_same xs n s (omega arith)

set_other : (xs : List (List ℕ)) (n m : ℕ) (s : List ℕ) → (m ≡ n → ⊥)
    → numbers_at (slice_set xs n s) m ≡ numbers_at xs m
set_other [] n m s ne = refl
set_other (x ∷ xs) zero zero s ne = absurd (ne refl)
set_other (x ∷ xs) zero (suc m) s ne = refl
set_other (x ∷ xs) (suc n) zero s ne = refl
set_other (x ∷ xs) (suc n) (suc m) s ne = set_other xs n m s (λ e. ne (ap suc e))

-- a number is put into the set of a place
registers : (old : ℕ → List ℕ) (xs : List (List ℕ)) (q : Place) (s s' : List ℕ) (n : ℕ)
    → numbers_at xs ≡ old → place_slot q < length xs → s ≡ get_or xs (place_slot q) s
    → GainsMember s s' n
    → RegistersReader (λ r. old (place_slot r))
    (λ r. numbers_at (slice_set xs (place_slot q) s') (place_slot r)) q n
registers old xs q s s' n o lt e g = subst
    (λ f. RegistersReader (λ r. f (place_slot r))
    (λ r. numbers_at (slice_set xs (place_slot q) s') (place_slot r)) q n) o (record {
      kept = λ r m h. ⊎_elim
          (λ z. subst (λ k. In m (numbers_at (slice_set xs (place_slot q) s') k)) (sym z)
          (subst (In m) (sym new)
          (g.kept m
          (subst (In m) (ap (numbers_at xs) z ∙ numbers_some xs (place_slot q) s lt e) h))))
          (λ z. subst (In m) (sym (set_other xs (place_slot q) (place_slot r) s' z)) h)
          (same_or_not (place_slot r) (place_slot q));
      put = subst (In n) (sym new) g.put;
    })
  where
    new : numbers_at (slice_set xs (place_slot q) s') (place_slot q) ≡ s'
    new = set_same xs (place_slot q) s' lt

pub registers_at : (old : ℕ → List ℕ) (xs : List (List ℕ)) (q : Place) (k : ℕ) (s s' : List ℕ)
    (n : ℕ) → k ≡ place_slot q → numbers_at xs ≡ old → k < length xs → s ≡ get_or xs k s
    → GainsMember s s' n
    → RegistersReader (λ r. old (place_slot r)) (λ r. numbers_at (slice_set xs k s') (place_slot r))
    q n
registers_at old xs q k s s' n is = subst
    (λ j. numbers_at xs ≡ old → j < length xs → s ≡ get_or xs j s → GainsMember s s' n
    → RegistersReader (λ r. old (place_slot r)) (λ r. numbers_at (slice_set xs j s') (place_slot r))
    q n) (sym is) (registers old xs q s s' n)

-- a number is put into a row
pub gets_at_end : (xs : List ℕ) (n : ℕ) → GainsMember xs (xs ++ n ∷ []) n
gets_at_end xs n = record {
  kept = λ m h. in_left xs (n ∷ []) h;
  put = in_right xs (n ∷ []) here;
  only = λ m h. ⊎_elim (λ a. inl a) (λ b. inr (one_in n b)) (in_split xs (n ∷ []) h);
}

pub gets_at : (xs : List ℕ) (k n : ℕ) → GainsMember xs (insert xs k n) n
gets_at xs k n = record {
  kept = λ m h. kept m (subst (In m) (sym (take-append-drop k xs)) h);
  put = in_right (take k xs) (n ∷ drop k xs) here;
  only = λ m h. ⊎_elim
      (λ a. inl (subst (In m) (take-append-drop k xs) (in_left (take k xs) (drop k xs) a)))
      (λ b. ⊎_elim (λ e. inr e)
      (λ c. inl (subst (In m) (take-append-drop k xs) (in_right (take k xs) (drop k xs) c)))
      (cons_in n (drop k xs) b))
      (in_split (take k xs) (n ∷ drop k xs) h);
}
  where
    kept : (m : ℕ) → In m (take k xs ++ drop k xs) → In m (insert xs k n)
    kept m h = ⊎_elim (λ a. in_left (take k xs) (n ∷ drop k xs) a)
        (λ b. in_right (take k xs) (n ∷ drop k xs) (there b)) (in_split (take k xs) (drop k xs) h)

pub gets_found : (xs : List ℕ) (k n : ℕ) → k < length xs
    → ((d : ℕ) → nat_cmp (get_or xs k d) n ≡ Equal) → GainsMember xs xs n
gets_found xs k n lt e = record {
  kept = λ m h. h;
  put = subst (λ m. In m xs) (nat_cmp-IsAntisymmetric (get_or xs k n) n (e n))
      (read_in xs k lt);
  only = λ m h. inl h;
}
  where
    read_in : (ys : List ℕ) (i : ℕ) → i < length ys → In (get_or ys i n) ys
    read_in [] i lt = absurd (omega arith)
    read_in (y ∷ ys) zero lt = here
    read_in (y ∷ ys) (suc i) lt = there (read_in ys i (omega (arith, lt)))

-- loops over numbers
pub taken_next : {X : Type 0} (P : X → Type 0) (xs : List X) (i : ℕ) (d : X) → i < length xs
    → ((x : X) → In x (take i xs) → P x) → P (get_or xs i d) → (x : X) → In x (take (i + 1) xs)
    → P x
taken_next P xs i d lt h p x k = ⊎_elim (λ a. h x a)
    (λ b. subst P (sym (one_in (get_or xs i d) b)) p)
    (in_split (take i xs) (get_or xs i d ∷ []) (subst (In x) (take_more xs i d lt) k))

pub taken_all : {X : Type 0} (P : X → Type 0) (xs : List X) (i : ℕ) → length xs ≤ i
    → ((x : X) → In x (take i xs) → P x) → (x : X) → In x xs → P x
taken_all P xs i le h x k = h x (subst (In x) (sym (take_all i xs le)) k)
