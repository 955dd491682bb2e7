-- Items of lists: where one stands, the one beside it in another list, and the first that passes a
-- test.
use Rattle.std.proofs.Common.{◌≡◌, ℕ, zero, suc, Bool, true, false, cond, List, [], ◌∷◌, refl, sym, ap, subst, ◌∙◌, Option, Some, None}
use Rattle.std.specs.Prelude.{slice_get}
use Rattle.std.specs.List.{AllZip, find}
use Rattle.seq.specs.Lists.{In, here, there}
use Rattle.seq.proofs.Lists.{none_is_some}

pub one_item : {X : Type 0} (o : Option X) (x y : X) → o ≡ Some x → o ≡ Some y → x ≡ y
one_item o x y e f = let h : Some x ≡ Some y = sym e ∙ f in cc

module _ {X : Type 0} where
  pub place_in : {x : X} (xs : List X) → In x xs → (i : ℕ) × (slice_get xs i ≡ Some x)
  place_in [] h = elim h [ ]
  place_in (x ∷ xs) here = (zero, refl)
  place_in (y ∷ xs) (there h) = let w = place_in xs h in (suc w.0, w.1)

  pub in_place : {x : X} (xs : List X) (i : ℕ) → slice_get xs i ≡ Some x → In x xs
  in_place [] i e = absurd cc
  in_place {x = x} (y ∷ xs) zero e = let same : y ≡ x = cc
      in subst (λ w. In x (w ∷ xs)) (sym same) here
  in_place (y ∷ xs) (suc i) e = there (in_place xs i e)

module _ {X Y : Type 0} (R : X → Y → Type 0) where
  pub beside : (xs : List X) (ys : List Y) → AllZip R xs ys → (i : ℕ) (x : X)
      → slice_get xs i ≡ Some x → (y : Y) × (slice_get ys i ≡ Some y) × R x y
  beside [] ys z i x e = none_is_some e
  beside (a ∷ xs) [] z i x e = absurd z
  beside (a ∷ xs) (b ∷ ys) z zero x e = let same : a ≡ x = cc
      in (b, refl, subst (λ w. R w b) same z.0)
  beside (a ∷ xs) (b ∷ ys) z (suc i) x e = beside xs ys z.1 i x e

  pub beside_back : (xs : List X) (ys : List Y) → AllZip R xs ys → (i : ℕ) (y : Y)
      → slice_get ys i ≡ Some y → (x : X) × (slice_get xs i ≡ Some x) × R x y
  beside_back xs [] z i y e = none_is_some e
  beside_back [] (b ∷ ys) z i y e = absurd z
  beside_back (a ∷ xs) (b ∷ ys) z zero y e = let same : b ≡ y = cc
      in (a, refl, subst (λ w. R a w) same z.0)
  beside_back (a ∷ xs) (b ∷ ys) z (suc i) y e = beside_back xs ys z.1 i y e

  -- a list beside another, where each item has a counterpart
  pub chosen : (xs : List X) → ((i : ℕ) (x : X) → slice_get xs i ≡ Some x → (y : Y) × R x y)
      → (ys : List Y) × AllZip R xs ys
  chosen [] f = ([], tt)
  chosen (x ∷ xs) f =
      let first = f zero x refl in
      let rest = chosen xs (λ i y e. f (suc i) y e) in
      (first.0 ∷ rest.0, (first.1, rest.1))

module _ {X : Type 0} (test : X → Bool) where
  -- what is found stands there and passes
  pub found : (xs : List X) (x : X) → find test xs ≡ Some x → (i : ℕ) × (slice_get xs i ≡ Some x)
      × (test x ≡ true)
  found [] x e = none_is_some e
  found (y ∷ xs) x e = go (test y) refl e (found xs x)
    where
      go : (b : Bool) → test y ≡ b → cond b (Some y) (find test xs) ≡ Some x
          → (find test xs ≡ Some x → (i : ℕ) × (slice_get xs i ≡ Some x) × (test x ≡ true))
          → (i : ℕ) × (slice_get (y ∷ xs) i ≡ Some x) × (test x ≡ true)
      go true h e rest = let same : y ≡ x = cc in (zero, e, ap test (sym same) ∙ h)
      go false h e rest = let w = rest e in (suc w.0, w.1, w.2)

  -- where nothing is found, nothing passes
  pub none_passes : (xs : List X) → find test xs ≡ None → (i : ℕ) (x : X) → slice_get xs i ≡ Some x
      → test x ≡ false
  none_passes [] e i x f = none_is_some f
  none_passes (y ∷ xs) e i x f = go (test y) refl e i f (λ e i f. none_passes xs e i x f)
    where
      go : (b : Bool) → test y ≡ b → cond b (Some y) (find test xs) ≡ None → (i : ℕ)
          → slice_get (y ∷ xs) i ≡ Some x →
          (find test xs ≡ None → (i : ℕ) → slice_get xs i ≡ Some x → test x ≡ false)
          → test x ≡ false
      go true h e i f rest = none_is_some (sym e)
      go false h e zero f rest = let same : y ≡ x = cc in ap test (sym same) ∙ h
      go false h e (suc i) f rest = rest e i f
