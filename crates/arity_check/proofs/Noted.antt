-- Refusals among those that are noted one by one, and among those of a walk over a list.
use Rattle.std.proofs.Common.{◌≡◌, ℕ, zero, suc, ◌+◌, ◌<◌, Bool, true, false, List, [], ◌∷◌, ◌++◌, refl, sym, ap, ◌∙◌, subst, arith, Some, ◌⊎◌, inl, inr}
use Rattle.std.specs.Prelude.{◌==◌, slice_get, ◌||◌}
use Rattle.std.proofs.lemmas.Bool.{eqb-true, eq-eqb}
use Rattle.seq.specs.Lists.{In, here}
use Rattle.seq.proofs.Member as member
use Rattle.arity_check.specs.declared.refusal.CheckRefusal.{CheckRefusal}
use Rattle.arity_check.specs.Faults.{refusal_if, with_member}

pub in_left : {r : CheckRefusal} {xs : List CheckRefusal} (ys : List CheckRefusal) → In r xs
    → In r (xs ++ ys)
in_left {xs = xs} ys i = member.in_left xs ys i

pub in_right : {r : CheckRefusal} (xs : List CheckRefusal) {ys : List CheckRefusal} → In r ys
    → In r (xs ++ ys)
in_right xs {ys = ys} i = member.in_right xs ys i

pub in_cases : (r : CheckRefusal) (xs ys : List CheckRefusal) → In r (xs ++ ys) → In r xs ⊎ In r ys
in_cases r xs ys i = member.in_split xs ys i

-- a refusal that was noted
pub record WasNoted (b : Bool) (q r : CheckRefusal) : Type 0 where
  pub holds : b ≡ true
  pub is : q ≡ r

pub from_one : (q r : CheckRefusal) → In r (q ∷ []) → q ≡ r
from_one q r i = sym (member.one_in q i)

pub from_noted : (b : Bool) (q r : CheckRefusal) → In r (refusal_if b q) → WasNoted b q r
from_noted true q r i = record { holds = refl; is = from_one q r i }
from_noted false q r i = elim i [ ]

pub to_noted : (b : Bool) (q : CheckRefusal) → b ≡ true → In q (refusal_if b q)
to_noted true q e = here
to_noted false q e = absurd cc

-- ---- a walk over a list that remembers the keys it has seen

module _ {T : Type 0} (key : T → ℕ) (f : ℕ → Bool → T → List CheckRefusal) where
  abbrev pub walked : ℕ → (ℕ → Bool) → List T → List CheckRefusal
  walked i seen [] = []
  walked i seen (x ∷ xs) = f i (seen (key x)) x ++ walked (i + 1) (with_member (key x) seen) xs

  -- an item of the list has the refusal, and one before it has its key if that was said
  pub record Walked (r : CheckRefusal) (i0 : ℕ) (seen : ℕ → Bool) (xs : List T) : Type 0 where
    pub i : ℕ
    pub item : T
    pub again : Bool
    pub is : slice_get xs i ≡ Some item
    pub found : In r (f (i0 + i) again item)
    pub before : again ≡ true → (seen (key item) ≡ true)
        ⊎ ((j : ℕ) ×
        ((other : T) × (j < i) × (slice_get xs j ≡ Some other) × (key item ≡ key other)))

  later_before : (x item : T) (xs : List T) (i : ℕ) (seen : ℕ → Bool)
      → (with_member (key x) seen (key item) ≡ true)
      ⊎ ((j : ℕ) ×
      ((other : T) × (j < i) × (slice_get xs j ≡ Some other) × (key item ≡ key other)))
      → (seen (key item) ≡ true) ⊎
      ((j : ℕ) ×
      ((other : T) × (j < suc i) × (slice_get (x ∷ xs) j ≡ Some other)
      × (key item ≡ key other)))
  later_before x item xs i seen (inr h) = inr (suc h.0, (h.1.0, omega (arith, h.1.1), h.1.2, h.1.3))
  later_before x item xs i seen (inl e) = go (key x == key item) refl e
    where
      go : (b : Bool) → (key x == key item) ≡ b → (b || seen (key item)) ≡ true
          → (seen (key item) ≡ true) ⊎
          ((j : ℕ) ×
          ((other : T) × (j < suc i) × (slice_get (x ∷ xs) j ≡ Some other)
          × (key item ≡ key other)))
      go true h e = inr (zero, (x, omega arith, refl, sym (eqb-true _ _ h)))
      go false h e = inl e

  pub from_walked : (r : CheckRefusal) (i0 : ℕ) (seen : ℕ → Bool) (xs : List T)
      → In r (walked i0 seen xs) → Walked r i0 seen xs
  from_walked r i0 seen [] i = elim i [ ]
  from_walked r i0 seen (x ∷ xs) i =
      elim (in_cases r (f i0 (seen (key x)) x) (walked (i0 + 1) (with_member (key x) seen) xs) i) [
        | inl a ↦ record {
          i = zero;
          item = x;
          again = seen (key x);
          is = refl;
          found
              = (let e : i0 ≡ i0 + 0 = omega arith in subst (λ n. In r (f n (seen (key x)) x)) e a);
          before = λ e. inl e;
        }
        | inr b ↦
            let w = from_walked r (i0 + 1) (with_member (key x) seen) xs b in
            let e : i0 + 1 + w.i ≡ i0 + suc w.i = omega arith in
            record {
              i = suc w.i;
              item = w.item;
              again = w.again;
              is = w.is;
              found
                  = subst (λ n. In r (f n w.again w.item)) e w.found;
              before
                  = λ h. later_before x w.item xs w.i seen (w.before h);
            }
      ]

  pub to_walked : (r : CheckRefusal) (i0 : ℕ) (seen : ℕ → Bool) (xs : List T) (i : ℕ) (x : T)
      → slice_get xs i ≡ Some x → ((b : Bool) → In r (f (i0 + i) b x)) → In r (walked i0 seen xs)
  to_walked r i0 seen [] i x e h = absurd cc
  to_walked r i0 seen (y ∷ ys) zero x e h =
      let same : x ≡ y = cc in
      let n : i0 + 0 ≡ i0 = omega arith in
      in_left (walked (i0 + 1) (with_member (key y) seen) ys)
      (subst (λ t. In r (f i0 (seen (key y)) t)) same
      (subst (λ n. In r (f n (seen (key y)) x)) n (h (seen (key y)))))
  to_walked r i0 seen (y ∷ ys) (suc i) x e h =
      let n : i0 + suc i ≡ i0 + 1 + i = omega arith in
      in_right (f i0 (seen (key y)) y)
      (to_walked r (i0 + 1) (with_member (key y) seen) ys i x e
      (λ b. subst (λ n. In r (f n b x)) n (h b)))

  also_seen : (x y : ℕ) (seen : ℕ → Bool) → seen y ≡ true → with_member x seen y ≡ true
  also_seen x y seen e = go (x == y)
    where
      go : (b : Bool) → (b || seen y) ≡ true
      go true = refl
      go false = e

  pub to_walked_seen : (r : CheckRefusal) (i0 : ℕ) (seen : ℕ → Bool) (xs : List T) (i : ℕ) (x : T)
      → slice_get xs i ≡ Some x → seen (key x) ≡ true → In r (f (i0 + i) true x)
      → In r (walked i0 seen xs)
  to_walked_seen r i0 seen [] i x e s h = absurd cc
  to_walked_seen r i0 seen (y ∷ ys) zero x e s h =
      let same : x ≡ y = cc in
      let n : i0 + 0 ≡ i0 = omega arith in
      let b : true ≡ seen (key y) = sym s ∙ ap (λ x. seen (key x)) same in
      in_left (walked (i0 + 1) (with_member (key y) seen) ys)
      (subst (λ b. In r (f i0 b y)) b
      (subst (λ t. In r (f i0 true t)) same (subst (λ n. In r (f n true x)) n h)))
  to_walked_seen r i0 seen (y ∷ ys) (suc i) x e s h =
      let n : i0 + suc i ≡ i0 + 1 + i = omega arith in
      in_right (f i0 (seen (key y)) y)
      (to_walked_seen r (i0 + 1) (with_member (key y) seen) ys i x e
      (also_seen (key y) (key x) seen s) (subst (λ n. In r (f n true x)) n h))

  pub to_walked_again : (r : CheckRefusal) (i0 : ℕ) (seen : ℕ → Bool) (xs : List T) (j i : ℕ)
      (y x : T) → j < i → slice_get xs j ≡ Some y → slice_get xs i ≡ Some x → key x ≡ key y
      → In r (f (i0 + i) true x)
      → In r (walked i0 seen xs)
  to_walked_again r i0 seen [] j i y x l e g k h = absurd cc
  to_walked_again r i0 seen (z ∷ zs) j zero y x l e g k h = absurd (omega (arith, l))
  to_walked_again r i0 seen (z ∷ zs) zero (suc i) y x l e g k h =
      let same : z ≡ y = cc in
      let n : i0 + suc i ≡ i0 + 1 + i = omega arith in
      let s : with_member (key z) seen (key x) ≡ true
      = ap (λ b. b || seen (key x)) (eq-eqb (key z) (key x) (ap key same ∙ sym k)) in
      in_right (f i0 (seen (key z)) z)
      (to_walked_seen r (i0 + 1) (with_member (key z) seen) zs i x g s
      (subst (λ n. In r (f n true x)) n h))
  to_walked_again r i0 seen (z ∷ zs) (suc j) (suc i) y x l e g k h =
      let n : i0 + suc i ≡ i0 + 1 + i = omega arith in
      in_right (f i0 (seen (key z)) z)
      (to_walked_again r (i0 + 1) (with_member (key z) seen) zs j i y x (omega (arith, l)) e g k
      (subst (λ n. In r (f n true x)) n h))
