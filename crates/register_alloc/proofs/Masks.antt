-- Masks that grow by those of called procedures.
use Rattle.std.proofs.Common.{◌≡◌, ℕ, zero, suc, ◌^◌, ◌<◌, ◌≤◌, max, Bool, true, false, ◌||◌, List, [], ◌∷◌, length, drop, set, Some, slice_get, refl, sym, ap, ◌∙◌, subst, arith}
use Rattle.std.proofs.lemmas.Grind.{common_steps}
use Rattle.std.proofs.lemmas.Option.{slice_get_within}
use Rattle.std.proofs.lemmas.Nat.Bits.{bit_at_or}
use Rattle.std.proofs.lemmas.Nat.{le_or_l}
use Rattle.std.specs.Int.{bit_at}
use Rattle.std.specs.Int.RustNames.{bit_or}
use Rattle.seq.proofs.Order.{same_or_not}
use Rattle.register_alloc.specs.Reach.{MayChangeRegister, its_own, called, AreLeastMasks}
use Rattle.register_alloc.specs.Rounds.{mask_at, called_by, joined_masks, with_called, Grows, same, more, MasksAreClosed, room}
use mathlib.Core.Logic.{◌⊎◌, inl, inr}

-- ---- the mask that is joined

pub joined_next : (masks : List ℕ) (m i g : ℕ) (gs : List ℕ) → slice_get gs i ≡ Some g
    → joined_masks masks m (drop i gs) ≡ joined_masks masks (bit_or m (mask_at masks g))
    (drop (suc i) gs)
joined_next masks m zero g (h ∷ gs) e = let q : h ≡ g = cc
    in ap (λ x. joined_masks masks (bit_or m (mask_at masks x)) gs) q
joined_next masks m (suc i) g (h ∷ gs) e = joined_next masks m i g gs e
joined_next masks m zero g [] e = cc
joined_next masks m (suc i) g [] e = cc

bit_below : (a i : ℕ) → bit_at a i < 2
bit_below a i = omega arith

-- a bit of the one or of the other
pub or_bit : (a b i : ℕ) → bit_at (bit_or a b) i ≡ 1 → (bit_at a i ≡ 1) ⊎ (bit_at b i ≡ 1)
or_bit a b i h =
    let e = bit_at_or a b i in
    let x = bit_below a i in
    let y = bit_below b i in
    go (bit_at a i) (bit_at b i) x y (sym e ∙ h)
  where
    go : (x y : ℕ) → x < 2 → y < 2 → max x y ≡ 1 → (x ≡ 1) ⊎ (y ≡ 1)
    go zero y k l m = inr (omega arith)
    go (suc zero) y k l m = inl refl
    go (suc (suc x)) y k l m = absurd (omega arith)

pub bit_left : (a b i : ℕ) → bit_at a i ≡ 1 → bit_at (bit_or a b) i ≡ 1
bit_left a b i h = let e = bit_at_or a b i in let y = bit_below b i in omega (arith, e, h, y)

pub bit_right : (a b i : ℕ) → bit_at b i ≡ 1 → bit_at (bit_or a b) i ≡ 1
bit_right a b i h = let e = bit_at_or a b i in let x = bit_below a i in omega (arith, e, h, x)

-- a bit of a joined mask comes from the mask, or from one that is called
joined_bit : (masks : List ℕ) (m : ℕ) (gs : List ℕ) (r : ℕ) → bit_at (joined_masks masks m gs) r ≡ 1
    → (bit_at m r ≡ 1) ⊎
    ((k : ℕ) × ((g : ℕ) × ((slice_get gs k ≡ Some g) × (bit_at (mask_at masks g) r ≡ 1))))
joined_bit masks m [] r h = inl h
joined_bit masks m (g ∷ gs) r h = go (joined_bit masks (bit_or m (mask_at masks g)) gs r h)
  where
    first : (bit_at m r ≡ 1) ⊎ (bit_at (mask_at masks g) r ≡ 1) → (bit_at m r ≡ 1)
        ⊎ ((k : ℕ) ×
        ((x : ℕ) × ((slice_get (g ∷ gs) k ≡ Some x) × (bit_at (mask_at masks x) r ≡ 1))))
    first (inl a) = inl a
    first (inr b) = inr (0, (g, (refl, b)))

    go : (bit_at (bit_or m (mask_at masks g)) r ≡ 1)
        ⊎ ((k : ℕ) × ((x : ℕ) × ((slice_get gs k ≡ Some x) × (bit_at (mask_at masks x) r ≡ 1))))
        → (bit_at m r ≡ 1) ⊎
        ((k : ℕ) ×
        ((x : ℕ) × ((slice_get (g ∷ gs) k ≡ Some x) × (bit_at (mask_at masks x) r ≡ 1))))
    go (inl a) = first (or_bit m (mask_at masks g) r a)
    go (inr b) = inr (suc b.0, (b.1.0, (b.1.1.0, b.1.1.1)))

joined_keeps : (masks : List ℕ) (m : ℕ) (gs : List ℕ) (r : ℕ) → bit_at m r ≡ 1
    → bit_at (joined_masks masks m gs) r ≡ 1
joined_keeps masks m [] r h = h
joined_keeps masks m (g ∷ gs) r h = joined_keeps masks (bit_or m (mask_at masks g)) gs r
    (bit_left m (mask_at masks g) r h)

joined_has : (masks : List ℕ) (m : ℕ) (gs : List ℕ) (k g r : ℕ) → slice_get gs k ≡ Some g
    → bit_at (mask_at masks g) r ≡ 1 → bit_at (joined_masks masks m gs) r ≡ 1
joined_has masks m [] k g r e h = cc
joined_has masks m (x ∷ gs) zero g r e h =
    let q : x ≡ g = cc in
    joined_keeps masks (bit_or m (mask_at masks x)) gs r
    (bit_right m (mask_at masks x) r (subst (λ y. bit_at (mask_at masks y) r ≡ 1) (sym q) h))
joined_has masks m (x ∷ gs) (suc k) g r e h = joined_has masks (bit_or m (mask_at masks x)) gs k g r
    e h

pub joined_more : (masks : List ℕ) (m : ℕ) (gs : List ℕ) → m ≤ joined_masks masks m gs
joined_more masks m [] = omega arith
joined_more masks m (g ∷ gs) = let a = le_or_l m (mask_at masks g) in let b
    = joined_more masks (bit_or m (mask_at masks g)) gs in omega (arith, a, b)

-- ---- masks that grow

pub grown_length : (calls : List (List ℕ)) (old masks : List ℕ) → Grows calls old masks
    → length masks ≡ length old
grown_length calls old _ same = refl
grown_length calls old _ (more {masks = masks} f g l)
    = set_length masks f (with_called calls masks f) ∙ grown_length calls old masks g
  where
    set_length : (xs : List ℕ) (i v : ℕ) → length (set xs i v) ≡ length xs
    set_length xs i v = grind (arith, common_steps)

pub grown_through : (calls : List (List ℕ)) (a b c : List ℕ) → Grows calls a b → Grows calls b c
    → Grows calls a c
grown_through calls a b _ g same = g
grown_through calls a b _ g (more f h l) = more f (grown_through calls a b _ g h) l

at_set_same : (xs : List ℕ) (i v : ℕ) → i < length xs → mask_at (set xs i v) i ≡ v
at_set_same [] i v h = omega arith
at_set_same (x ∷ xs) zero v h = refl
at_set_same (x ∷ xs) (suc i) v h = at_set_same xs i v (omega arith)

at_set_other : (xs : List ℕ) (i k v : ℕ) → (i ≡ k → ⊥) → mask_at (set xs i v) k ≡ mask_at xs k
at_set_other [] i k v h = refl
at_set_other (x ∷ xs) zero zero v h = absurd (h refl)
at_set_other (x ∷ xs) zero (suc k) v h = refl
at_set_other (x ∷ xs) (suc i) zero v h = refl
at_set_other (x ∷ xs) (suc i) (suc k) v h = at_set_other xs i k v (λ e. h (ap suc e))

called_there : (calls : List (List ℕ)) (f k g : ℕ) → slice_get (called_by calls f) k ≡ Some g
    → slice_get calls f ≡ Some (called_by calls f)
called_there [] f k g e = cc
called_there (c ∷ calls) zero k g e = refl
called_there (c ∷ calls) (suc f) k g e = called_there calls f k g e

module _ (own : List ℕ) (calls : List (List ℕ)) where
  -- each bit is that of a procedure which is reached
  abbrev Sound : List ℕ → Type 0
  Sound masks = (f r : ℕ) → bit_at (mask_at masks f) r ≡ 1 → MayChangeRegister own calls f r

  sound_with : (masks : List ℕ) (f r : ℕ) → Sound masks → bit_at (with_called calls masks f) r ≡ 1
      → MayChangeRegister own calls f r
  sound_with masks f r s h = go (joined_bit masks (mask_at masks f) (called_by calls f) r h)
    where
      go : (bit_at (mask_at masks f) r ≡ 1) ⊎
          ((k : ℕ) ×
          ((g : ℕ) ×
          ((slice_get (called_by calls f) k ≡ Some g) × (bit_at (mask_at masks g) r ≡ 1))))
          → MayChangeRegister own calls f r
      go (inl a) = s f r a
      go (inr b) = called f b.1.0 b.0 r (called_by calls f) (called_there calls f b.0 b.1.0 b.1.1.0)
          b.1.1.0 (s b.1.0 r b.1.1.1)

  sound : (masks : List ℕ) → Grows calls own masks → Sound masks
  sound _ same f r h = its_own f r h
  sound _ (more {masks = masks} k g l) f r h = go (sound masks g) (same_or_not k f)
    where
      go : Sound masks → (k ≡ f) ⊎ (k ≡ f → ⊥) → MayChangeRegister own calls f r
      go s (inl e) = subst (λ x. MayChangeRegister own calls x r) e
          (sound_with masks k r s
          (subst (λ m. bit_at m r ≡ 1)
          (ap (mask_at (set masks k (with_called calls masks k))) (sym e) ∙ at_set_same masks k
          (with_called calls masks k) l) h))
      go s (inr d) = s f r
          (subst (λ m. bit_at m r ≡ 1) (at_set_other masks k f (with_called calls masks k) d) h)

  kept : (masks : List ℕ) → Grows calls own masks → (f r : ℕ) → bit_at (mask_at own f) r ≡ 1
      → bit_at (mask_at masks f) r ≡ 1
  kept _ same f r h = h
  kept _ (more {masks = masks} k g l) f r h = go (kept masks g f r h) (same_or_not k f)
    where
      go : bit_at (mask_at masks f) r ≡ 1 → (k ≡ f) ⊎ (k ≡ f → ⊥)
          → bit_at (mask_at (set masks k (with_called calls masks k)) f) r ≡ 1
      go before (inl e) = subst
          (λ x. bit_at (mask_at (set masks k (with_called calls masks k)) x) r ≡ 1) e
          (subst (λ m. bit_at m r ≡ 1) (sym (at_set_same masks k (with_called calls masks k) l))
          (joined_keeps masks (mask_at masks k) (called_by calls k) r
          (subst (λ x. bit_at (mask_at masks x) r ≡ 1) (sym e) before)))
      go before (inr d) = subst (λ m. bit_at m r ≡ 1)
          (sym (at_set_other masks k f (with_called calls masks k) d)) before

  complete : (masks : List ℕ) → Grows calls own masks → MasksAreClosed calls masks (length calls)
      → (f r : ℕ) → MayChangeRegister own calls f r → bit_at (mask_at masks f) r ≡ 1
  complete masks g w _ _ (its_own f r h) = kept masks g f r h
  complete masks g w _ _ (called f g' k r gs c e h) =
      let inside = slice_get_within calls f gs c in
      let same : called_by calls f ≡ gs = from calls f gs c in
      subst (λ m. bit_at m r ≡ 1) (w f inside)
      (joined_has masks (mask_at masks f) (called_by calls f) k g' r
      (subst (λ x. slice_get x k ≡ Some g') (sym same) e) (complete masks g w g' r h))
    where
      from : (calls : List (List ℕ)) (f : ℕ) (gs : List ℕ) → slice_get calls f ≡ Some gs
          → called_by calls f ≡ gs
      from [] f gs e = cc
      from (c ∷ calls) zero gs e = cc
      from (c ∷ calls) (suc f) gs e = from calls f gs e

  pub are_least : (masks : List ℕ) → Grows calls own masks
      → MasksAreClosed calls masks (length calls) → AreLeastMasks own calls masks
  are_least masks g w f r = (sound masks g f r, complete masks g w f r)

-- ---- less room

pub room_less : (ms : List ℕ) (f v : ℕ) → f < length ms → mask_at ms f < v → v < 2 ^ 32
    → room (set ms f v) < room ms
room_less [] f v l h b = omega arith
room_less (m ∷ ms) zero v l h b = omega arith
room_less (m ∷ ms) (suc f) v l h b = let k = room_less ms f v (omega arith) h b in omega arith

before_next : (f n : ℕ) → f < suc n → (f ≡ n → ⊥) → f < n
before_next zero zero l d = absurd (d refl)
before_next zero (suc n) l d = omega arith
before_next (suc f) zero l d = omega arith
before_next (suc f) (suc n) l d = let k = before_next f n (omega arith) (λ e. d (ap suc e))
    in omega arith

pub whole_next : (calls : List (List ℕ)) (masks : List ℕ) (n : ℕ) → MasksAreClosed calls masks n
    → with_called calls masks n ≡ mask_at masks n → MasksAreClosed calls masks (suc n)
whole_next calls masks n w e f l = go (same_or_not f n)
  where
    go : (f ≡ n) ⊎ (f ≡ n → ⊥) → with_called calls masks f ≡ mask_at masks f
    go (inl q) = subst (λ x. with_called calls masks x ≡ mask_at masks x) (sym q) e
    go (inr d) = w f (before_next f n l d)

-- ---- one procedure of a round

pub set_at : (xs : List ℕ) (f : ℕ) → set xs f (mask_at xs f) ≡ xs
set_at [] f = refl
set_at (x ∷ xs) zero = refl
set_at (x ∷ xs) (suc f) = ap (λ ys. x ∷ ys) (set_at xs f)

pub called_is : (calls : List (List ℕ)) (f : ℕ) (gs : List ℕ) → slice_get calls f ≡ Some gs
    → called_by calls f ≡ gs
called_is [] f gs e = cc
called_is (c ∷ calls) zero gs e = cc
called_is (c ∷ calls) (suc f) gs e = called_is calls f gs e

-- the masks of a round so far
pub record Round (calls : List (List ℕ)) (old masks : List ℕ) (grew : Bool) (f : ℕ) : Type 0 where
  pub grows : Grows calls old masks
  pub many : length masks ≡ length calls
  pub closer : grew ≡ true → room masks < room old
  pub same_ones : grew ≡ false → (masks ≡ old) × MasksAreClosed calls masks f

pub round_next : (calls : List (List ℕ)) (old masks new : List ℕ) (grew more' : Bool) (f : ℕ)
    (gs : List ℕ) → slice_get calls f ≡ Some gs
    → Round calls old masks grew f
    → new ≡ set masks f (joined_masks masks (mask_at masks f) gs)
    → (more' ≡ true → room new < room masks)
    → (more' ≡ false → joined_masks masks (mask_at masks f) gs ≡ mask_at masks f)
    → Round calls old new (grew || more') (suc f)
round_next calls old masks new grew more' f gs c r n l s =
    let inside : f < length calls = slice_get_within calls f gs c in
    let is : called_by calls f ≡ gs = called_is calls f gs c in
    let within : f < length masks = omega (arith, r.many, inside) in
    let next : new ≡ set masks f (with_called calls masks f)
    = n ∙ ap (λ x. set masks f (joined_masks masks (mask_at masks f) x)) (sym is) in
    let g : Grows calls old new = subst (λ x. Grows calls old x) (sym next) (more f r.grows within)
    in
    record {
      grows = g;
      many = grown_length calls old new g ∙ sym (grown_length calls old masks r.grows) ∙ r.many;
      closer = closer grew more' r.closer (λ e. (r.same_ones e).0) l s;
      same_ones = stays grew more' is r.same_ones s;
    }
  where
    unchanged : joined_masks masks (mask_at masks f) gs ≡ mask_at masks f → new ≡ masks
    unchanged e = n ∙ ap (set masks f) e ∙ set_at masks f

    closer : (a b : Bool) → (a ≡ true → room masks < room old) → (a ≡ false → masks ≡ old)
        → (b ≡ true → room new < room masks) →
        (b ≡ false → joined_masks masks (mask_at masks f) gs ≡ mask_at masks f) → (a || b) ≡ true
        → room new < room old
    closer true true h o k s e = let x = h refl in let y = k refl in omega arith
    closer true false h o k s e = subst (λ x. room x < room old) (sym (unchanged (s refl))) (h refl)
    closer false true h o k s e = subst (λ x. room new < room x) (o refl) (k refl)
    closer false false h o k s e = cc

    stays : (a b : Bool) → called_by calls f ≡ gs →
        (a ≡ false → (masks ≡ old) × MasksAreClosed calls masks f)
        → (b ≡ false → joined_masks masks (mask_at masks f) gs ≡ mask_at masks f) → (a || b) ≡ false
        → (new ≡ old) × MasksAreClosed calls new (suc f)
    stays false false q h s e =
        let u : new ≡ masks = unchanged (s refl) in
        let w = h refl in (
          u ∙ w.0,
          subst (λ x. MasksAreClosed calls x (suc f)) (sym u)
              (whole_next calls masks f w.1 (ap (joined_masks masks (mask_at masks f)) q ∙ s refl)),
        )
    stays true b q h s e = cc
    stays false true q h s e = cc

pub round_begins : (calls : List (List ℕ)) (old : List ℕ) → length old ≡ length calls
    → Round calls old old false 0
round_begins calls old h = record {
  grows = same;
  many = h;
  closer = λ e. cc;
  same_ones
      = λ e. (refl, λ f l. absurd (omega arith));
}

-- a mask that is not the old one is greater
pub greater : (masks : List ℕ) (f : ℕ) (gs : List ℕ) → f < length masks
    → (joined_masks masks (mask_at masks f) gs ≡ mask_at masks f → ⊥)
    → joined_masks masks (mask_at masks f) gs < 2 ^ 32
    → room (set masks f (joined_masks masks (mask_at masks f) gs)) < room masks
greater masks f gs l d b =
    let a = joined_more masks (mask_at masks f) gs in
    let less : mask_at masks f < joined_masks masks (mask_at masks f) gs
    = strict (mask_at masks f) (joined_masks masks (mask_at masks f) gs) a d in
    room_less masks f (joined_masks masks (mask_at masks f) gs) l less b
  where
    strict : (a b : ℕ) → a ≤ b → (b ≡ a → ⊥) → a < b
    strict zero zero h d = absurd (d refl)
    strict zero (suc b) h d = omega arith
    strict (suc a) zero h d = omega arith
    strict (suc a) (suc b) h d = let k = strict a b (omega arith) (λ e. d (ap suc e)) in omega arith
