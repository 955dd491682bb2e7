-- Whether some word of a list is of a kind, as a loop over the list finds it.
use Rattle.std.proofs.Common.{◌≡◌, ◌+◌, ◌*◌, ◌/◌, ◌%◌, ◌<◌, ◌≤◌, ℕ, Bool, true, false, cond, ◌||◌, List, [], ◌∷◌, take, length, get_or, refl, sym, ap, ◌∙◌, arith}
use Rattle.std.specs.List.{flat_map, list_any}
use Rattle.std.proofs.lemmas.List.{take_all}
use Rattle.std.proofs.lemmas.List.Folds.{list_any-append}
use Rattle.flow_system.specs.declared.fact.Element.{Element}
use Rattle.flow_system.specs.declared.fact.Element.TheVariants.{Cell}
use Rattle.seq.specs.Lists.{here, there}
use Rattle.seq.proofs.Member.{none_in, map_in}
use Rattle.seq.proofs.Order.{lt_false}
use Rattle.points_to.specs.Bits.{block_numbers, number_or_tag, word_of, block_words}
use Rattle.points_to.specs.Held.{In}
use Rattle.points_to.proofs.Loops.{flat_taken}
use Rattle.points_to.proofs.Numbers.{in_bit}

or_assoc : (a b c : Bool) → ((a || b) || c) ≡ (a || (b || c))
or_assoc true b c = refl
or_assoc false b c = refl

pub or_nothing : (a : Bool) → (a || false) ≡ a
or_nothing true = refl
or_nothing false = refl

-- what was seen already is all that can be seen
pub already : (a b total : Bool) → a ≡ true → (a || b) ≡ total → a ≡ total
already a b total e h = e ∙ sym (ap (λ c. c || b) e) ∙ h

module _ {X : Type 0} (f : X → Bool) where
  -- the next of what is left was looked at
  pub spotted_next : (now new total : Bool) (x : X) (left rest : List X)
      → (now || list_any f left) ≡ total → left ≡ x ∷ rest → new ≡ (now || f x)
      → (new || list_any f rest) ≡ total
  spotted_next now new total x left rest h e k =
      ap (λ b. b || list_any f rest) k ∙ or_assoc now (f x) (list_any f rest) ∙ sym
      (ap (λ l. now || list_any f l) e) ∙ h

  pub none_spotted : (xs : List X) → ((x : X) → In x xs → f x ≡ false) → list_any f xs ≡ false
  none_spotted [] h = refl
  none_spotted (x ∷ xs) h = ap (λ b. b || list_any f xs) (h x here) ∙ none_spotted xs
      (λ y i. h y (there i))

  pub in_any : (xs : List X) (x : X) → In x xs → f x ≡ true → list_any f xs ≡ true
  in_any [] x h e = none_in h
  in_any (y ∷ xs) x here e = ap (λ b. b || list_any f xs) e
  in_any (y ∷ xs) x (there h) e = ap (λ b. f y || b) (in_any xs x h e) ∙ or_true (f y)
    where
      or_true : (b : Bool) → (b || true) ≡ true
      or_true true = refl
      or_true false = refl

  pub any_in : (xs : List X) → list_any f xs ≡ true → (x : X) × In x xs × (f x ≡ true)
  any_in [] e = cc
  any_in (y ∷ xs) e = go (λ r. any_in xs r) (f y) refl e
    where
      go : (list_any f xs ≡ true → (x : X) × In x xs × (f x ≡ true)) → (b : Bool) → f y ≡ b
          → (b || list_any f xs) ≡ true → (x : X) × In x (y ∷ xs) × (f x ≡ true)
      go later true q r = (y, here, q)
      go later false q r = let i = later r in (i.0, there i.1, i.2)

  module _ {Y : Type 0} (g : Y → List X) where
    pub any_next : (ys : List Y) (i : ℕ) (d : Y) (now new : Bool) → i < length ys
        → now ≡ list_any f (flat_map g (take i ys)) → new ≡ (now || list_any f (g (get_or ys i d)))
        → new ≡ list_any f (flat_map g (take (i + 1) ys))
    any_next ys i d now new lt h k =
        k ∙ ap (λ b. b || list_any f (g (get_or ys i d))) h ∙ sym
        (list_any-append f (flat_map g (take i ys)) (g (get_or ys i d))) ∙ ap (list_any f)
        (flat_taken g ys i d lt)

    pub any_done : (ys : List Y) (i : ℕ) (now : Bool) → length ys ≤ i
        → now ≡ list_any f (flat_map g (take i ys)) → now ≡ list_any f (flat_map g ys)
    any_done ys i now le h = h ∙ ap (λ l. list_any f (flat_map g l)) (take_all i ys le)

-- a block with an odd number has cells alone
cell_number : (q i : ℕ) → q % 2 ≡ 1 → i < 64 → (s : ℕ) × (word_of (q * 64 + i) ≡ Cell s)
cell_number q i odd lt =
    let n = q * 64 + i in
    let s = n / 128 * 64 + n % 64 in (
      s,
      ap (λ b. cond b (number_or_tag s) (Cell s))
          (lt_false (n % 128) 64 (omega (arith, odd, lt))),
    )

pub cells_alone : (q w : ℕ) → q % 2 ≡ 1 → (x : Element) → In x (block_words (q, w)) → (s : ℕ)
    × (x ≡ Cell s)
cells_alone q w odd x h =
    let m = map_in word_of (block_numbers (q, w)) h in
    let b = in_bit 64 (q * 64) w m.0 m.1 in
    let c = cell_number q b.0 odd b.1 in
    (c.0, m.2 ∙ ap word_of b.2 ∙ c.1)
