-- Membership in lists that are made of other lists.
use Rattle.std.proofs.Common.{◌≡◌, Bool, true, false, cond, List, [], ◌∷◌, ◌++◌, map, refl, inl, inr, ⊎_elim}
use Rattle.std.specs.Prelude.{◌⊎◌}
use Rattle.std.specs.List.{flat_map}
use Rattle.seq.specs.Lists.{In, here, there}

module _ {X : Type 0} {x : X} where
  pub none_in : {P : Type 0} → In x [] → P
  none_in h = elim h [ ]

  pub cons_in : (y : X) (ys : List X) → In x (y ∷ ys) → (x ≡ y) ⊎ In x ys
  cons_in y ys here = inl refl
  cons_in y ys (there h) = inr h

  pub one_in : (y : X) → In x (y ∷ []) → x ≡ y
  one_in y here = refl
  one_in y (there h) = none_in h

  pub in_left : (xs ys : List X) → In x xs → In x (xs ++ ys)
  in_left [] ys h = none_in h
  in_left (z ∷ xs) ys here = here
  in_left (z ∷ xs) ys (there h) = there (in_left xs ys h)

  pub in_right : (xs ys : List X) → In x ys → In x (xs ++ ys)
  in_right [] ys h = h
  in_right (z ∷ xs) ys h = there (in_right xs ys h)

  pub in_split : (xs ys : List X) → In x (xs ++ ys) → In x xs ⊎ In x ys
  in_split [] ys h = inr h
  in_split (z ∷ xs) ys here = inl here
  in_split (z ∷ xs) ys (there h) = ⊎_elim (λ a. inl (there a)) (λ b. inr b) (in_split xs ys h)

  pub when_in : (b : Bool) (xs : List X) → In x (cond b xs []) → (b ≡ true) × In x xs
  when_in true xs h = (refl, h)
  when_in false xs h = none_in h

  pub in_when : (b : Bool) (xs : List X) → b ≡ true → In x xs → In x (cond b xs [])
  in_when true xs e h = h
  in_when false xs e h = cc

module _ {X Y : Type 0} (f : X → List Y) where
  pub in_flat : {x : X} {y : Y} (xs : List X) → In x xs → In y (f x) → In y (flat_map f xs)
  in_flat [] h k = none_in h
  in_flat (z ∷ xs) here k = in_left (f z) (flat_map f xs) k
  in_flat (z ∷ xs) (there h) k = in_right (f z) (flat_map f xs) (in_flat xs h k)

  pub flat_in : {y : Y} (xs : List X) → In y (flat_map f xs) → (x : X) × In x xs × In y (f x)
  flat_in [] h = none_in h
  flat_in (z ∷ xs) h = ⊎_elim (λ a. (z, here, a))
      (λ b. let r = flat_in xs b in (r.0, there r.1, r.2)) (in_split (f z) (flat_map f xs) h)

module _ {X Y : Type 0} (f : X → Y) where
  pub in_map : {x : X} (xs : List X) → In x xs → In (f x) (map f xs)
  in_map [] h = none_in h
  in_map (z ∷ xs) here = here
  in_map (z ∷ xs) (there h) = there (in_map xs h)

  pub map_in : {y : Y} (xs : List X) → In y (map f xs) → (x : X) × In x xs × (y ≡ f x)
  map_in [] h = none_in h
  map_in (z ∷ xs) h = ⊎_elim (λ e. (z, here, e)) (λ k. let r = map_in xs k in (r.0, there r.1, r.2))
      (cons_in (f z) (map f xs) h)
