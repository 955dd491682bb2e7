-- Lists that are made of other lists, where one of those gets members or a new one comes.
use Rattle.std.proofs.Common.{◌≡◌, ℕ, zero, suc, ◌+◌, ◌<◌, ◌≤◌, List, [], ◌∷◌, ◌++◌, take, length, get_or, slice_set, sym, subst, inl, inr, ⊎_elim, arith}
use Rattle.std.specs.List.{flat_map}
use Rattle.std.proofs.lemmas.List.{take_all}
use Rattle.points_to.specs.Held.{In}
use Rattle.points_to.specs.Rows.{GainsMembers, SameMembers}
use Rattle.seq.proofs.Member.{none_in, in_left, in_right, in_split}
use Rattle.points_to.proofs.Loops.{flat_taken}

module _ {X Y : Type 0} (f : X → List Y) (is : List Y) where
  behind : (x : X) (xs ys : List X) → GainsMembers (flat_map f xs) (flat_map f ys) is
      → GainsMembers (flat_map f (x ∷ xs)) (flat_map f (x ∷ ys)) is
  behind x xs ys g = record {
    kept = λ j h. ⊎_elim (λ a. in_left _ _ a) (λ b. in_right (f x) _ (g.kept j b))
        (in_split (f x) (flat_map f xs) h);
    put = λ j h. in_right (f x) _ (g.put j h);
    only = λ j h. ⊎_elim (λ a. inl (in_left _ _ a))
        (λ b. ⊎_elim (λ o. inl (in_right (f x) _ o)) (λ n. inr n) (g.only j b))
        (in_split (f x) (flat_map f ys) h);
  }

  pub gets_at : (xs : List X) (k : ℕ) (x x' : X) → k < length xs → x ≡ get_or xs k x
      → GainsMembers (f x) (f x') is → GainsMembers (flat_map f xs) (flat_map f (slice_set xs k x'))
      is
  gets_at [] k x x' lt e g = absurd (omega arith)
  gets_at (y ∷ xs) zero x x' lt e g = record {
    kept = λ j h. ⊎_elim (λ a. in_left _ _ (g.kept j (subst (λ z. In j (f z)) (sym e) a)))
        (λ b. in_right (f x') _ b) (in_split (f y) (flat_map f xs) h);
    put = λ j h. in_left _ _ (g.put j h);
    only = λ j h. ⊎_elim
        (λ a. ⊎_elim (λ o. inl (in_left _ _ (subst (λ z. In j (f z)) e o))) (λ n. inr n)
        (g.only j a)) (λ b. inl (in_right (f y) _ b)) (in_split (f x') (flat_map f xs) h);
  }
  gets_at (y ∷ xs) (suc k) x x' lt e g = behind y xs (slice_set xs k x')
      (gets_at xs k x x' (omega arith) e g)

  pub gets_between : (xs zs : List X) (x : X) → GainsMembers [] (f x) is
      → GainsMembers (flat_map f (xs ++ zs)) (flat_map f (xs ++ x ∷ zs)) is
  gets_between [] zs x g = record {
    kept = λ j h. in_right (f x) _ h;
    put = λ j h. in_left _ _ (g.put j h);
    only = λ j h. ⊎_elim (λ a. ⊎_elim (λ o. none_in o) (λ n. inr n) (g.only j a)) (λ b. inl b)
        (in_split (f x) (flat_map f zs) h);
  }
  gets_between (y ∷ xs) zs x g = behind y (xs ++ zs) (xs ++ x ∷ zs) (gets_between xs zs x g)

-- members come step by step
pub gets_none : {X : Type 0} (xs : List X) → GainsMembers xs xs []
gets_none xs = record { kept = λ x h. h; put = λ x h. none_in h; only = λ x h. inl h }

pub gets_more : {X : Type 0} (old now new xs ys : List X) → GainsMembers old now xs
    → GainsMembers now new ys → GainsMembers old new (xs ++ ys)
gets_more old now new xs ys g h = record {
  kept = λ x k. h.kept x (g.kept x k);
  put = λ x k. ⊎_elim (λ a. h.kept x (g.put x a)) (λ b. h.put x b) (in_split xs ys k);
  only = λ x k. ⊎_elim (λ a. ⊎_elim (λ o. inl o) (λ n. inr (in_left xs ys n)) (g.only x a))
      (λ b. inr (in_right xs ys b)) (h.only x k);
}

module _ {X Y : Type 0} (f : X → List Y) (xs : List X) (i : ℕ) (old now : List Y) where
  pub gets_next : (d : X) (new : List Y) → i < length xs
      → GainsMembers old now (flat_map f (take i xs)) → GainsMembers now new (f (get_or xs i d))
      → GainsMembers old new (flat_map f (take (i + 1) xs))
  gets_next d new lt g h = subst (GainsMembers old new) (flat_taken f xs i d lt)
      (gets_more old now new (flat_map f (take i xs)) (f (get_or xs i d)) g h)

  pub gets_done : length xs ≤ i → GainsMembers old now (flat_map f (take i xs))
      → GainsMembers old now (flat_map f xs)
  gets_done le = subst (λ l. GainsMembers old now (flat_map f l)) (take_all i xs le)

-- what an empty list gets
pub gets_from_none : {X : Type 0} (ys xs : List X) → GainsMembers [] ys xs → SameMembers ys xs
gets_from_none ys xs g = record
    { into = λ x h. ⊎_elim (λ a. none_in a) (λ b. b) (g.only x h); back = g.put }

-- the same members are got
pub gets_same : {X : Type 0} (old new xs ys : List X) → SameMembers xs ys → GainsMembers old new xs
    → GainsMembers old new ys
gets_same old new xs ys s g = record {
  kept = g.kept;
  put = λ x h. g.put x (s.back x h);
  only
      = λ x h. ⊎_elim (λ a. inl a) (λ b. inr (s.into x b)) (g.only x h);
}
