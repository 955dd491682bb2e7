-- The items of all modules of a list, one after the other.
use Rattle.std.proofs.Common.{◌≡◌, ℕ, zero, suc, ◌+◌, ◌<◌, List, [], ◌∷◌, ◌++◌, map, length, refl, ap, subst, ◌∙◌, arith, Some, ◌⊎◌, inl, inr}
use Rattle.std.specs.Prelude.{◌≢◌, slice_get}
use Rattle.std.proofs.lemmas.Map.Keys.{sorted_head, sorted_tail}
use Rattle.std.specs.Ordering.{nat_cmp}
use Rattle.std.specs.Cmp.Lexicographic.{slice_cmp}
use Rattle.seq.specs.Lists.{In}
use Rattle.seq.proofs.Lists.{get_within, none_is_some}
use Rattle.seq.proofs.Member.{in_flat, in_map}
use Rattle.core_link.specs.Module.{Module}
use Rattle.core_link.specs.Union.{with_module, IsStrictlySorted}
use Rattle.core_link.proofs.Beside.{in_place, place_in}
use Rattle.core_link.proofs.OneOrder.{Below, not_both, below_all}

pub get_split : {X : Type 0} (xs ys : List X) (i : ℕ) (x : X) → slice_get (xs ++ ys) i ≡ Some x
    → (slice_get xs i ≡ Some x) ⊎ ((k : ℕ) × (i ≡ length xs + k) × (slice_get ys k ≡ Some x))
get_split [] ys i x e = inr (i, omega arith, e)
get_split (y ∷ xs) ys zero x e = inl e
get_split (y ∷ xs) ys (suc i) x e = go (get_split xs ys i x e)
  where
    go : (slice_get xs i ≡ Some x) ⊎ ((k : ℕ) × (i ≡ length xs + k) × (slice_get ys k ≡ Some x))
        → (slice_get xs i ≡ Some x) ⊎
        ((k : ℕ) × (suc i ≡ suc (length xs) + k) × (slice_get ys k ≡ Some x))
    go (inl h) = inl h
    go (inr h) = inr (h.0, omega (arith, h.1), h.2)

pub map_at : {X Y : Type 0} (f : X → Y) (xs : List X) (i : ℕ) (y : Y)
    → slice_get (map f xs) i ≡ Some y → (x : X) × (slice_get xs i ≡ Some x) × (f x ≡ y)
map_at f [] i y e = none_is_some e
map_at f (x ∷ xs) zero y e = (x, refl, cc)
map_at f (x ∷ xs) (suc i) y e = map_at f xs i y e

-- of two places in a list with rising keys, the keys differ
pub rising_apart : {X : Type 0} (key : X → List ℕ) (xs : List X) → IsStrictlySorted (map key xs)
    → (i j : ℕ) (x y : X) → i < j → slice_get xs i ≡ Some x → slice_get xs j ≡ Some y
    → key x ≢ key y
rising_apart key [] r i j x y l e f s = none_is_some e
rising_apart key (a ∷ xs) r zero zero x y l e f s = omega (arith, l)
rising_apart key (a ∷ xs) r zero (suc j) x y l e f s =
    let same : a ≡ x = cc in
    let below : Below key (key a) (key y) = below_all key (key a) xs
    (sorted_head (slice_cmp nat_cmp) (key a) (map key xs) r) y (in_place xs j f) in
    let twice : Below key (key y) (key y) = subst (λ k. Below key k (key y)) (ap key same ∙ s) below
    in
    not_both key (key y) (key y) twice twice
rising_apart key (a ∷ xs) r (suc i) zero x y l e f s = omega (arith, l)
rising_apart key (a ∷ xs) r (suc i) (suc j) x y l e f s
    = rising_apart key xs (sorted_tail (slice_cmp nat_cmp) (key a) (map key xs) r) i j x y
    (omega (arith, l)) e f s

module _ {X : Type 0} (items : Module → List X) where
  -- the module of an item, and the item's place there
  pub record Belongs (ms : List Module) (x : Module × X) : Type 0 where
    pub file : ℕ
    pub number : ℕ
    pub owner : slice_get ms file ≡ Some x.0
    pub item : slice_get (items x.0) number ≡ Some x.1

  -- two items stand in two modules, or at two places of one
  pub data Apart (ms : List Module) (x y : Module × X) : Type 0 where
    InTwo : (i j : ℕ) → i < j → slice_get ms i ≡ Some x.0 → slice_get ms j ≡ Some y.0 → Apart ms x y
    InOne : (m : Module) (file i j : ℕ) (a b : X) → slice_get ms file ≡ Some m → i < j
        → slice_get (items m) i ≡ Some a → slice_get (items m) j ≡ Some b → (m, a) ≡ x → (m, b) ≡ y
        → Apart ms x y

  abbrev pairs : Module → List (Module × X)
  pairs m = map (λ x. (m, x)) (items m)

  in_first : (m : Module) (ms : List Module) (i : ℕ) (x : Module × X)
      → slice_get (pairs m) i ≡ Some x → Belongs (m ∷ ms) x
  in_first m ms i x e =
      let w = map_at (λ x. (m, x)) (items m) i x e in
      subst (Belongs (m ∷ ms)) w.2 (record { file = zero; number = i; owner = refl; item = w.1 })

  pub belongs : (ms : List Module) (i : ℕ) (x : Module × X)
      → slice_get (with_module items ms) i ≡ Some x → Belongs ms x
  belongs [] i x e = none_is_some e
  belongs (m ∷ ms) i x e = go (get_split (pairs m) (with_module items ms) i x e)
      (λ k f. belongs ms k x f)
    where
      go : (slice_get (pairs m) i ≡ Some x) ⊎
          ((k : ℕ) × (i ≡ length (pairs m) + k) × (slice_get (with_module items ms) k ≡ Some x))
          → ((k : ℕ) → slice_get (with_module items ms) k ≡ Some x → Belongs ms x)
          → Belongs (m ∷ ms) x
      go (inl h) rest = in_first m ms i x h
      go (inr h) rest = let w = rest h.0 h.2 in record
          { file = suc w.file; number = w.number; owner = w.owner; item = w.item }

  further : (m : Module) (ms : List Module) (x y : Module × X) → Apart ms x y → Apart (m ∷ ms) x y
  further m ms x y (InTwo i j l e f) = InTwo (suc i) (suc j) (omega (arith, l)) e f
  further m ms x y (InOne o file i j a b is l e f g h) = InOne o (suc file) i j a b is l e f g h

  pub apart : (ms : List Module) (i j : ℕ) (x y : Module × X) → i < j
      → slice_get (with_module items ms) i ≡ Some x → slice_get (with_module items ms) j ≡ Some y
      → Apart ms x y
  apart [] i j x y l e f = none_is_some e
  apart (m ∷ ms) i j x y l e f = go (get_split (pairs m) (with_module items ms) i x e)
      (get_split (pairs m) (with_module items ms) j y f) (λ a b l e f. apart ms a b x y l e f)
    where
      go : (slice_get (pairs m) i ≡ Some x) ⊎
          ((k : ℕ) × (i ≡ length (pairs m) + k) × (slice_get (with_module items ms) k ≡ Some x))
          → (slice_get (pairs m) j ≡ Some y) ⊎
          ((k : ℕ) × (j ≡ length (pairs m) + k) × (slice_get (with_module items ms) k ≡ Some y))
          → ((a b : ℕ) → a < b → slice_get (with_module items ms) a ≡ Some x
          → slice_get (with_module items ms) b ≡ Some y → Apart ms x y) → Apart (m ∷ ms) x y
      go (inl g) (inl h) rest =
          let a = map_at (λ x. (m, x)) (items m) i x g in
          let b = map_at (λ x. (m, x)) (items m) j y h in
          InOne m zero i j a.0 b.0 refl l a.1 b.1 a.2 b.2
      go (inl g) (inr h) rest =
          let a = map_at (λ x. (m, x)) (items m) i x g in
          let w = belongs ms h.0 y h.2 in
          InTwo zero (suc w.file) (omega arith) (ap (λ (z : Module × X). Some z.0) a.2) w.owner
      go (inr g) (inl h) rest = absurd
          (let w = get_within (pairs m) j y h in omega (arith, w, g.1, l))
      go (inr g) (inr h) rest = further m ms x y (rest g.0 h.0 (omega (arith, l, g.1, h.1)) g.2 h.2)

  pub among : (ms : List Module) (m : Module) (x : X) → In m ms → In x (items m) → (i : ℕ)
      × (slice_get (with_module items ms) i ≡ Some (m, x))
  among ms m x h g = place_in (with_module items ms)
      (in_flat pairs ms h (in_map (λ x. (m, x)) (items m) g))
