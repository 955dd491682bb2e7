-- What holds of each number in a list.
use Rattle.std.proofs.Common.{◌≡◌, ℕ, zero, suc, ◌+◌, ◌<◌, ◌≤◌, List, [], ◌∷◌, ◌++◌, map, take, length, get_or, sym, ap, ◌∙◌, subst, ⊎_elim, arith}
use Rattle.std.proofs.lemmas.List.{take_more, take_all}
use Rattle.points_to.specs.Held.{In, here, there}
use Rattle.seq.proofs.Member.{none_in, one_in, in_split}
use Rattle.seq.proofs.Lists.{map_push}

pub record Each (P : ℕ → Type 0) (ns : List ℕ) : Type 0 where
  pub by : (n : ℕ) → In n ns → P n

pub each_of_none : (P : ℕ → Type 0) → Each P []
each_of_none P = record { by = λ n h. none_in h }

module _ {X : Type 0} (f : X → ℕ) where
  -- the number at a place
  pub in_place : (xs : List X) (i : ℕ) (d : X) → i < length xs → In (f (get_or xs i d)) (map f xs)
  in_place [] i d lt = absurd (omega (arith, lt))
  in_place (x ∷ xs) zero d lt = here
  in_place (x ∷ xs) (suc i) d lt = there (in_place xs i d (omega (arith, lt)))

  pub one_more_holds : (P : ℕ → Type 0) (xs : List X) (i : ℕ) (d : X) → i < length xs
      → Each P (map f (take i xs)) → P (f (get_or xs i d)) → Each P (map f (take (i + 1) xs))
  one_more_holds P xs i d lt e h =
      let more : map f (take (i + 1) xs) ≡ map f (take i xs) ++ f (get_or xs i d) ∷ []
      = ap (map f) (take_more xs i d lt) ∙ map_push f (take i xs) (get_or xs i d) in
      subst (Each P) (sym more) (record {
        by = λ n k. ⊎_elim (λ a. e.by n a) (λ b. subst P (sym (one_in (f (get_or xs i d)) b)) h)
            (in_split (map f (take i xs)) (f (get_or xs i d) ∷ []) k);
      })

  pub all_hold : (P : ℕ → Type 0) (xs : List X) (i : ℕ) → length xs ≤ i → Each P (map f (take i xs))
      → Each P (map f xs)
  all_hold P xs i le e = subst (λ l. Each P (map f l)) (take_all i xs le) e
