-- Items of lists by their places.
use Rattle.std.proofs.Common.{◌≡◌, ℕ, zero, suc, ◌<◌, Bool, true, false, List, [], ◌∷◌, take, map, refl, sym, ap, ◌∙◌, arith, Some, inl, inr}
use Rattle.std.specs.Prelude.{slice_get, ◌||◌}
use Rattle.std.specs.List.{list_any}
use Rattle.std.specs.Str.{bytes_eq}
use Rattle.seq.proofs.Truth.{two_ways}
use Rattle.arity_check.proofs.Names.{same_bytes}
use Rattle.core_reader.proofs.NamingOf.{itself}
use Rattle.core_link.specs.Shared.{has}

or_right : (b c : Bool) → c ≡ true → (b || c) ≡ true
or_right true c e = refl
or_right false c e = e

module _ {X : Type 0} where
  -- an item that passes a test, with its place
  pub record PassesAt (test : X → Bool) (xs : List X) : Type 0 where
    pub number : ℕ
    pub item : X
    pub is : slice_get xs number ≡ Some item
    pub passes : test item ≡ true

  pub any_at : (test : X → Bool) (xs : List X) → list_any test xs ≡ true → PassesAt test xs
  any_at test [] e = absurd cc
  any_at test (x ∷ xs) e = elim (two_ways (test x)) [
    | inl y ↦ record { number = zero; item = x; is = refl; passes = y }
    | inr n ↦ let w = any_at test xs (sym (ap (λ b. b || list_any test xs) n) ∙ e)
        in record { number = suc w.number; item = w.item; is = w.is; passes = w.passes }
  ]

  pub at_any : (test : X → Bool) (xs : List X) (i : ℕ) (x : X) → slice_get xs i ≡ Some x
      → test x ≡ true → list_any test xs ≡ true
  at_any test [] i x e t = absurd cc
  at_any test (y ∷ xs) zero x e t = let same : y ≡ x = cc
      in ap (λ b. b || list_any test xs) (ap test same ∙ t)
  at_any test (y ∷ xs) (suc i) x e t = or_right (test y) (list_any test xs) (at_any test xs i x e t)

  -- items of the front of a list
  pub record InFront (n : ℕ) (xs : List X) (i : ℕ) (x : X) : Type 0 where
    pub before : i < n
    pub is : slice_get xs i ≡ Some x

  pub taken_at : (n : ℕ) (xs : List X) (i : ℕ) (x : X) → slice_get (take n xs) i ≡ Some x
      → InFront n xs i x
  taken_at zero xs i x e = absurd cc
  taken_at (suc n) [] i x e = absurd cc
  taken_at (suc n) (y ∷ xs) zero x e = record { before = omega arith; is = e }
  taken_at (suc n) (y ∷ xs) (suc i) x e = let w = taken_at n xs i x e
      in record { before = (let l = w.before in omega (arith, l)); is = w.is }

  pub at_taken : (n : ℕ) (xs : List X) (i : ℕ) (x : X) → i < n → slice_get xs i ≡ Some x
      → slice_get (take n xs) i ≡ Some x
  at_taken zero xs i x l e = absurd (omega (arith, l))
  at_taken (suc n) [] i x l e = e
  at_taken (suc n) (y ∷ xs) zero x l e = e
  at_taken (suc n) (y ∷ xs) (suc i) x l e = at_taken n xs i x (omega (arith, l)) e

module _ {X Y : Type 0} (f : X → Y) where
  pub record Mapped (xs : List X) (i : ℕ) (y : Y) : Type 0 where
    pub item : X
    pub is : slice_get xs i ≡ Some item
    pub same : f item ≡ y

  pub mapped_at : (xs : List X) (i : ℕ) (y : Y) → slice_get (map f xs) i ≡ Some y → Mapped xs i y
  mapped_at [] i y e = absurd cc
  mapped_at (x ∷ xs) zero y e = record { item = x; is = refl; same = cc }
  mapped_at (x ∷ xs) (suc i) y e = let w = mapped_at xs i y e
      in record { item = w.item; is = w.is; same = w.same }

-- ---- texts

pub record TextAt {X : Type 0} (text : X → List ℕ) (xs : List X) (w : List ℕ) : Type 0 where
  pub number : ℕ
  pub item : X
  pub is : slice_get xs number ≡ Some item
  pub same : text item ≡ w

pub has_at : {X : Type 0} (text : X → List ℕ) (xs : List X) (w : List ℕ)
    → has (map text xs) w ≡ true → TextAt text xs w
has_at text xs w e =
    let p = any_at (bytes_eq w) (map text xs) e in
    let q = mapped_at text xs p.number p.item p.is in
    record {
      number = p.number;
      item = q.item;
      is = q.is;
      same
          = q.same ∙ sym (same_bytes w p.item p.passes);
    }

pub at_has : {X : Type 0} (text : X → List ℕ) (xs : List X) (w : List ℕ) (i : ℕ) (x : X)
    → slice_get xs i ≡ Some x → text x ≡ w → has (map text xs) w ≡ true
at_has text [] w i x e t = absurd cc
at_has text (y ∷ xs) w zero x e t =
    let same : y ≡ x = cc in
    ap (λ b. b || has (map text xs) w) (ap (bytes_eq w) (ap text same ∙ t) ∙ itself w)
at_has text (y ∷ xs) w (suc i) x e t = or_right (bytes_eq w (text y)) (has (map text xs) w)
    (at_has text xs w i x e t)
