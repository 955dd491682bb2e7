-- Loops that put what they make of each item at the end of a list.
use Rattle.std.proofs.Common.{◌≡◌, ◌+◌, ◌<◌, ◌≤◌, ℕ, suc, List, [], ◌∷◌, ◌++◌, map, take, drop, length, get_or, append_assoc, refl, sym, ap, ◌∙◌, arith}
use Rattle.std.specs.List.{flat_map}
use Rattle.std.proofs.lemmas.List.{take_all, take_more}
use Rattle.std.proofs.lemmas.List.Concat.{flat_map-append}
use Rattle.seq.proofs.Lists.{append_nil, map_push, drop_past, drop_next}

module _ {X Y : Type 0} where
  pub flat_next : (f : X → List Y) (xs : List X) (i : ℕ) (d : X) (old now new : List Y)
      → i < length xs → now ≡ old ++ flat_map f (take i xs) → new ≡ now ++ f (get_or xs i d)
      → new ≡ old ++ flat_map f (take (i + 1) xs)
  flat_next f xs i d old now new lt h k =
      let x = get_or xs i d in
      k ∙ ap (λ l. l ++ f x) h ∙ append_assoc old (flat_map f (take i xs)) (f x)
      ∙ ap (λ l. old ++ (flat_map f (take i xs) ++ l)) (sym (append_nil (f x))) ∙ ap (λ l. old ++ l)
      (sym (flat_map-append f (take i xs) (x ∷ []))) ∙ ap (λ l. old ++ flat_map f l)
      (sym (take_more xs i d lt))

  pub flat_taken : (f : X → List Y) (xs : List X) (i : ℕ) (d : X) → i < length xs
      → flat_map f (take i xs) ++ f (get_or xs i d) ≡ flat_map f (take (i + 1) xs)
  flat_taken f xs i d lt = flat_next f xs i d [] (flat_map f (take i xs))
      (flat_map f (take i xs) ++ f (get_or xs i d)) lt refl refl

  -- the item as it was read
  pub flat_next_is : (f : X → List Y) (xs : List X) (i : ℕ) (x : X) (old now new : List Y)
      → i < length xs → x ≡ get_or xs i x → now ≡ old ++ flat_map f (take i xs) → new ≡ now ++ f x
      → new ≡ old ++ flat_map f (take (i + 1) xs)
  flat_next_is f xs i x old now new lt e h k = flat_next f xs i x old now new lt h
      (k ∙ ap (λ y. now ++ f y) e)

  pub flat_done : (f : X → List Y) (xs : List X) (i : ℕ) (old now : List Y) → length xs ≤ i
      → now ≡ old ++ flat_map f (take i xs) → now ≡ old ++ flat_map f xs
  flat_done f xs i old now le h = h ∙ ap (λ l. old ++ flat_map f l) (take_all i xs le)

  pub map_next : (f : X → Y) (xs : List X) (i : ℕ) (d : X) (old now new : List Y) → i < length xs
      → now ≡ old ++ map f (take i xs) → new ≡ now ++ f (get_or xs i d) ∷ [] → new ≡ old
      ++ map f (take (i + 1) xs)
  map_next f xs i d old now new lt h k =
      let x = get_or xs i d in
      k ∙ ap (λ l. l ++ f x ∷ []) h ∙ append_assoc old (map f (take i xs)) (f x ∷ []) ∙ ap
      (λ l. old ++ l) (sym (map_push f (take i xs) x)) ∙ ap (λ l. old ++ map f l)
      (sym (take_more xs i d lt))

  pub map_done : (f : X → Y) (xs : List X) (i : ℕ) (old now : List Y) → length xs ≤ i → now ≡ old
      ++ map f (take i xs) → now ≡ old ++ map f xs
  map_done f xs i old now le h = h ∙ ap (λ l. old ++ map f l) (take_all i xs le)

  -- what a loop over numbered items has still to do
  pub numbered_next : (rest : ℕ → List X → List Y) (one : ℕ → X → List Y)
      → ((j : ℕ) (x : X) (xs : List X) → rest j (x ∷ xs) ≡ one j x ++ rest (suc j) xs)
      → (xs : List X) (i j j' : ℕ) (d : X) (all now new : List Y) → i < length xs → j' ≡ j + 1 → now
      ++ rest j (drop i xs) ≡ all → new ≡ now ++ one j (get_or xs i d) → new
      ++ rest j' (drop (i + 1) xs) ≡ all
  numbered_next rest one step xs i j j' d all now new lt q h k =
      let x = get_or xs i d in
      ap (λ l. l ++ rest j' (drop (i + 1) xs)) k ∙ append_assoc now (one j x)
      (rest j' (drop (i + 1) xs))
      ∙ ap (λ n. now ++ (one j x ++ rest n (drop (i + 1) xs))) next ∙ ap (λ l. now ++ l)
      (sym (step j x (drop (i + 1) xs))) ∙ ap (λ l. now ++ rest j l) (sym (drop_next xs i d lt))
      ∙ h
    where
      next : j' ≡ suc j
      next = omega (arith, q)

  pub numbered_done : (rest : ℕ → List X → List Y) → ((j : ℕ) → rest j [] ≡ [])
      → (xs : List X) (i j : ℕ) (all now : List Y) → length xs ≤ i → now ++ rest j (drop i xs) ≡ all
      → now ≡ all
  numbered_done rest none xs i j all now le h = sym (append_nil now) ∙ ap (λ l. now ++ l)
      (sym (none j)) ∙ ap (λ l. now ++ rest j l) (sym (drop_past xs i le)) ∙ h
