-- Signatures and constructors by name, where tables have their numbers.
use Rattle.std.proofs.Common.{◌≡◌, ℕ, zero, suc, ◌+◌, Bool, true, false, List, [], ◌∷◌, refl, sym, ap, ◌∙◌, arith, Option, Some, None}
use Rattle.std.specs.Prelude.{◌==◌, slice_get, if◌then◌else◌}
use Rattle.arity_check.specs.Tables.{or_else}
use Rattle.core_types.specs.Source.{Constructor, TypeDecl, Signature}
use Rattle.core_types.specs.Typing.{constructor_in, constructor_by_name, signature_of}
use Rattle.core_types.specs.Building.{element_if_some, constructor_at, constructor_by_numbers, signature_number, constructor_number, number_in_types}

pub or_else_assoc : {T : Type 0} (a b c : Option T)
    → or_else (or_else a b) c ≡ or_else a (or_else b c)
or_else_assoc None b c = refl
or_else_assoc (Some x) b c = refl

-- ---- signatures

signature_some : (gs : List Signature) (k n i : ℕ) → signature_number gs k n ≡ Some i → (j : ℕ)
    × (i ≡ j + k) × (signature_of gs n ≡ slice_get gs j)
signature_some [] k n i e = absurd cc
signature_some (g ∷ gs) k n i e = go (g.function.name.0 == n) e
    (λ e. signature_some gs (k + 1) n i e)
  where
    go : (b : Bool) → (if b then Some k else signature_number gs (k + 1) n) ≡ Some i
        → (signature_number gs (k + 1) n ≡ Some i → (j : ℕ) × (i ≡ j + (k + 1))
        × (signature_of gs n ≡ slice_get gs j))
        → (j : ℕ) × (i ≡ j + k) × ((if b then Some g else signature_of gs n) ≡ slice_get (g ∷ gs) j)
    go true e rest = (zero, (let same : k ≡ i = cc in omega (arith, same)), refl)
    go false e rest = let r = rest e in (suc r.0, (let m = r.1 in omega (arith, m)), r.2)

signature_none : (gs : List Signature) (k n : ℕ) → signature_number gs k n ≡ None
    → signature_of gs n ≡ None
signature_none [] k n e = refl
signature_none (g ∷ gs) k n e = go (g.function.name.0 == n) e (λ e. signature_none gs (k + 1) n e)
  where
    go : (b : Bool) → (if b then Some k else signature_number gs (k + 1) n) ≡ None
        → (signature_number gs (k + 1) n ≡ None → signature_of gs n ≡ None)
        → (if b then Some g else signature_of gs n) ≡ None
    go true e rest = absurd cc
    go false e rest = rest e

pub signature_found : (gs : List Signature) (n : ℕ) (o : Option ℕ) → o ≡ signature_number gs 0 n
    → signature_of gs n ≡ element_if_some gs o
signature_found gs n None e = signature_none gs 0 n (sym e)
signature_found gs n (Some i) e = let r = signature_some gs 0 n i (sym e)
    in r.2 ∙ ap (slice_get gs) (let m : i ≡ r.0 + 0 = r.1 in omega (arith, m))

-- ---- constructors

-- a constructor that has a number, and its place
record Placed (cs : List Constructor) (n i j k m : ℕ) : Type 0 where
  number : ℕ
  type : i ≡ k
  place : j ≡ number + m
  constructor : Constructor
  by_name : constructor_in cs n ≡ Some constructor
  by_place : slice_get cs number ≡ Some constructor

constructor_some : (cs : List Constructor) (k m n : ℕ) (p : ℕ × ℕ)
    → constructor_number k cs m n ≡ Some p → Placed cs n p.0 p.1 k m
constructor_some [] k m n p e = absurd cc
constructor_some (c ∷ cs) k m n p e = go (c.name.name.0 == n) refl e
    (λ e. constructor_some cs k (m + 1) n p e)
  where
    go : (b : Bool) → (c.name.name.0 == n) ≡ b →
        (if b then Some (k, m) else constructor_number k cs (m + 1) n) ≡ Some p
        → (constructor_number k cs (m + 1) n ≡ Some p → Placed cs n p.0 p.1 k (m + 1))
        → Placed (c ∷ cs) n p.0 p.1 k m
    go true q e rest =
        let same : (k, m) ≡ p = cc in
        record {
          number = zero;
          type = sym (ap (λ (p : ℕ × ℕ). p.0) same);
          place
              = (let l : p.1 ≡ m = sym (ap (λ (p : ℕ × ℕ). p.1) same) in omega (arith, l));
          constructor = c;
          by_name = ap (λ b. if b then Some c else constructor_in cs n) q;
          by_place = refl;
        }
    go false q e rest =
        let r = rest e in
        record {
          number = suc r.number;
          type = r.type;
          place
              = (let l = r.place in omega (arith, l));
          constructor = r.constructor;
          by_name
              = ap (λ b. if b then Some c else constructor_in cs n) q ∙ r.by_name;
          by_place
              = r.by_place;
        }

constructor_none : (cs : List Constructor) (k m n : ℕ) → constructor_number k cs m n ≡ None
    → constructor_in cs n ≡ None
constructor_none [] k m n e = refl
constructor_none (c ∷ cs) k m n e = go (c.name.name.0 == n) e
    (λ e. constructor_none cs k (m + 1) n e)
  where
    go : (b : Bool) → (if b then Some (k, m) else constructor_number k cs (m + 1) n) ≡ None
        → (constructor_number k cs (m + 1) n ≡ None → constructor_in cs n ≡ None)
        → (if b then Some c else constructor_in cs n) ≡ None
    go true e rest = absurd cc
    go false e rest = rest e

abbrev first_or : TypeDecl → Option (TypeDecl × Constructor) → Option Constructor
    → Option (TypeDecl × Constructor)
first_or d rest o = elim o [ Some c ↦ Some (d, c) | None ↦ rest ]

abbrev of_type : TypeDecl → Option Constructor → Option (TypeDecl × Constructor)
of_type d o = elim o [ Some c ↦ Some (d, c) | None ↦ None ]

abbrev in_types : ℕ → Option TypeDecl → Option (TypeDecl × Constructor)
in_types j o = elim o [ Some d ↦ constructor_at d j | None ↦ None ]

declared_some : (ds : List TypeDecl) (k n : ℕ) (p : ℕ × ℕ) → number_in_types ds k n ≡ Some p
    → (m : ℕ) × (p.0 ≡ m + k) ×
    (constructor_by_name ds n ≡ constructor_by_numbers ds (Some (m, p.1)))
declared_some [] k n p e = absurd cc
declared_some (d ∷ ds) k n p e = go (constructor_number k d.constructors 0 n) refl e
    (λ e. declared_some ds (k + 1) n p e)
  where
    go : (o : Option (ℕ × ℕ)) → constructor_number k d.constructors 0 n ≡ o
        → or_else o (number_in_types ds (k + 1) n) ≡ Some p
        → (number_in_types ds (k + 1) n ≡ Some p → (m : ℕ) × (p.0 ≡ m + (k + 1))
        × (constructor_by_name ds n ≡ constructor_by_numbers ds (Some (m, p.1))))
        → (m : ℕ) × (p.0 ≡ m + k) ×
        (constructor_by_name (d ∷ ds) n ≡ constructor_by_numbers (d ∷ ds) (Some (m, p.1)))
    go (Some q) f e rest =
        let same : q ≡ p = cc in
        let r : Placed d.constructors n p.0 p.1 k 0
        = constructor_some d.constructors k 0 n p (f ∙ ap Some same) in
        let place : r.number ≡ p.1 = (let l = r.place in omega (arith, l)) in (
          zero,
          (let l = r.type in omega (arith, l)),
          ap (first_or d (constructor_by_name ds n)) r.by_name ∙ sym
              (ap (of_type d) (ap (slice_get d.constructors) (sym place) ∙ r.by_place)),
        )
    go None f e rest =
        let r = rest e in (
          suc r.0,
          (let m = r.1 in omega (arith, m)),
          ap (first_or d (constructor_by_name ds n)) (constructor_none d.constructors k 0 n f) ∙
              r.2,
        )

declared_none : (ds : List TypeDecl) (k n : ℕ) → number_in_types ds k n ≡ None
    → constructor_by_name ds n ≡ None
declared_none [] k n e = refl
declared_none (d ∷ ds) k n e = go (constructor_number k d.constructors 0 n) refl e
    (λ e. declared_none ds (k + 1) n e)
  where
    go : (o : Option (ℕ × ℕ)) → constructor_number k d.constructors 0 n ≡ o
        → or_else o (number_in_types ds (k + 1) n) ≡ None
        → (number_in_types ds (k + 1) n ≡ None → constructor_by_name ds n ≡ None)
        → constructor_by_name (d ∷ ds) n ≡ None
    go (Some q) f e rest = absurd cc
    go None f e rest = ap (first_or d (constructor_by_name ds n))
        (constructor_none d.constructors k 0 n f) ∙ rest e

pub constructor_found : (ds : List TypeDecl) (n : ℕ) (o : Option (ℕ × ℕ))
    → o ≡ number_in_types ds 0 n → constructor_by_name ds n ≡ constructor_by_numbers ds o
constructor_found ds n None e = declared_none ds 0 n (sym e)
constructor_found ds n (Some p) e =
    let r = declared_some ds 0 n p (sym e) in
    let m : r.0 ≡ p.0 = (let l : p.0 ≡ r.0 + 0 = r.1 in omega (arith, l)) in
    r.2 ∙ ap (λ (i : ℕ). in_types p.1 (slice_get ds i)) m
