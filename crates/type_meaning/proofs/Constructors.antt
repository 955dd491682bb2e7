-- The constructors of a source by their numbers, and their types.
use Rattle.std.proofs.Common.{◌≡◌, ℕ, zero, suc, ◌+◌, ◌<◌, Bool, true, false, cond, not, nat_eq, nat_lt, List, [], ◌∷◌, ◌++◌, map, length, Option, Some, None, slice_get, refl, sym, ap, ◌∙◌, subst, arith, eqb-true, inl, inr}
use Rattle.std.specs.Prelude.{◌⊎◌}
use Rattle.std.specs.List.{flat_map, position_or_len}
use Rattle.std.proofs.lemmas.Bool.{eq-eqb, ltb-true, ltb-false}
use Rattle.seq.proofs.Lists.{some_is, none_is_some, get_left, get_right, get_within, map_get}
use Rattle.core_reader.specs.Tree as tree
use Rattle.arity_check.specs.Program as normal
use Rattle.arity_check.specs.Scope.{con_number}
use Rattle.arity_check.specs.Normal.{Pairwise, IsConstructor}
use Rattle.arity_check.specs.Broken as core
use Rattle.core_types.specs.Source.{WrittenTypes, NoTypes, AndType, Constructor, TypeDecl, Source, count, data_of, data_in, erased}
use Rattle.core_types.specs.Rules.{IsUnbroken, InCore}
use Rattle.core_types.specs.Typing.{Typed, Int, arrows, constructor_by_name, constructor_in, constructor_type, read_list, applied, used_at, Substitution}
use Rattle.core_meaning.specs.WellFormed.{HasFields}
use Rattle.type_meaning.specs.Judgement.{Instance}
use Rattle.type_meaning.specs.SourceTypes.{ConstructorHasType}
use Rattle.type_meaning.proofs.Readings.{under_both, both_carry, carry_arrows, carry_list, carry_applied, arrows_same}

pub record PairBack {X Y : Type 0} (R : X → Y → Type 0) (xs : List X) (i : ℕ) (y : Y) : Type 0 where
  pub other : X
  pub is : slice_get xs i ≡ Some other
  pub pair : R other y

pub pair_back : {X Y : Type 0} (R : X → Y → Type 0) (xs : List X) (ys : List Y) (i : ℕ) (y : Y)
    → Pairwise R xs ys → slice_get ys i ≡ Some y → PairBack R xs i y
pair_back R [] [] i y h e = none_is_some e
pair_back R [] (z ∷ ys) i y h e = absurd h
pair_back R (x ∷ xs) [] i y h e = absurd h
pair_back R (x ∷ xs) (z ∷ ys) zero y h e = record
    { other = x; is = refl; pair = subst (λ z. R x z) (some_is e) h.0 }
pair_back R (x ∷ xs) (z ∷ ys) (suc i) y h e = let r = pair_back R xs ys i y h.1 e
    in record { other = r.other; is = r.is; pair = r.pair }

pub record PairOn {X Y : Type 0} (R : X → Y → Type 0) (ys : List Y) (i : ℕ) (x : X) : Type 0 where
  pub other : Y
  pub is : slice_get ys i ≡ Some other
  pub pair : R x other

pub pair_on : {X Y : Type 0} (R : X → Y → Type 0) (xs : List X) (ys : List Y) (i : ℕ) (x : X)
    → Pairwise R xs ys → slice_get xs i ≡ Some x → PairOn R ys i x
pair_on R [] [] i x h e = none_is_some e
pair_on R [] (z ∷ ys) i x h e = absurd h
pair_on R (w ∷ xs) [] i x h e = absurd h
pair_on R (w ∷ xs) (z ∷ ys) zero x h e = record
    { other = z; is = refl; pair = subst (λ w. R w z) (some_is e) h.0 }
pair_on R (w ∷ xs) (z ∷ ys) (suc i) x h e = let r = pair_on R xs ys i x h.1 e
    in record { other = r.other; is = r.is; pair = r.pair }

-- ---- by name

pub record Placed {X : Type 0} (test : X → Bool) (xs : List X) (i : ℕ) : Type 0 where
  pub item : X
  pub is : slice_get xs i ≡ Some item
  pub passes : test item ≡ true

placed_at : {X : Type 0} (test : X → Bool) (xs : List X) → position_or_len test xs < length xs
    → Placed test xs (position_or_len test xs)
placed_at test [] lt = absurd (omega (arith, lt))
placed_at test (x ∷ xs) lt = by_test (test x) refl lt (placed_at test xs)
  where
    by_test : (b : Bool) → test x ≡ b → cond (not b) (1 + position_or_len test xs) 0 < suc
        (length xs) →
        (position_or_len test xs < length xs → Placed test xs (position_or_len test xs))
        → Placed test (x ∷ xs) (cond (not b) (1 + position_or_len test xs) 0)
    by_test true e lt k = record { item = x; is = refl; passes = e }
    by_test false e lt k =
        let r = k (omega (arith, lt)) in
        let z : suc (position_or_len test xs) ≡ 1 + position_or_len test xs = omega arith in
        record {
          item = r.item;
          is = subst (λ i. slice_get (x ∷ xs) i ≡ Some r.item) z r.is;
          passes
              = r.passes;
        }

pub placed : {X : Type 0} (test : X → Bool) (xs : List X) (n : ℕ)
    → cond (nat_lt (position_or_len test xs) (length xs)) (Some (position_or_len test xs)) None ≡
    Some n → Placed test xs n
placed test xs n e = by_test (nat_lt (position_or_len test xs) (length xs)) refl e
  where
    by_test : (b : Bool) → nat_lt (position_or_len test xs) (length xs) ≡ b
        → cond b (Some (position_or_len test xs)) None ≡ Some n → Placed test xs n
    by_test true i e = subst (λ n. Placed test xs n) (some_is e)
        (placed_at test xs (ltb-true (position_or_len test xs) (length xs) i))
    by_test false i e = none_is_some e

-- ---- what declares a constructor

abbrev all_data : List TypeDecl → List tree.Data
all_data ds = flat_map data_in ds

pub record Declares (ds : List TypeDecl) (n : ℕ) (d : TypeDecl) (c : Constructor) : Type 0 where
  pub named : c.name.name.0 ≡ n
  pub place : ℕ
  pub data_at : slice_get (flat_map data_in ds) place ≡ Some (data_of c)
  pub type_place : ℕ
  pub type_at : slice_get ds type_place ≡ Some d
  pub con_place : ℕ
  pub con_at : slice_get d.constructors con_place ≡ Some c

pub record InType (cs : List Constructor) (n : ℕ) (c : Constructor) : Type 0 where
  pub named : c.name.name.0 ≡ n
  pub place : ℕ
  pub at : slice_get cs place ≡ Some c

pub in_type : (cs : List Constructor) (n : ℕ) (c : Constructor) → constructor_in cs n ≡ Some c
    → InType cs n c
in_type [] n c e = none_is_some e
in_type (d ∷ cs) n c e = by_test (nat_eq d.name.name.0 n) refl e (in_type cs n c)
  where
    by_test : (b : Bool) → nat_eq d.name.name.0 n ≡ b
        → cond b (Some d) (constructor_in cs n) ≡ Some c
        → (constructor_in cs n ≡ Some c → InType cs n c) → InType (d ∷ cs) n c
    by_test true i e k = record {
      named = ap (λ (c : Constructor). c.name.name.0) (sym (some_is e)) ∙ eqb-true d.name.name.0
          n i;
      place = 0;
      at = e;
    }
    by_test false i e k = let r = k e in record { named = r.named; place = suc r.place; at = r.at }

pub declares : (ds : List TypeDecl) (n : ℕ) (d : TypeDecl) (c : Constructor)
    → constructor_by_name ds n ≡ Some (d, c) → Declares ds n d c
declares [] n d c e = none_is_some e
declares (t ∷ ds) n d c e = by_found (constructor_in t.constructors n) refl e (declares ds n d c)
  where
    by_found : (o : Option Constructor) → constructor_in t.constructors n ≡ o
        → elim o as (λ _. Option (TypeDecl × Constructor))
        [ Some c ↦ Some (t, c) | None ↦ constructor_by_name ds n ] ≡ Some (d, c)
        → (constructor_by_name ds n ≡ Some (d, c) → Declares ds n d c) → Declares (t ∷ ds) n d c
    by_found (Some b) i e k =
        let both : (t, b) ≡ (d, c) = some_is e in
        let type : t ≡ d = ap (λ (x : TypeDecl × Constructor). x.0) both in
        let con : b ≡ c = ap (λ (x : TypeDecl × Constructor). x.1) both in
        let r = in_type t.constructors n c (i ∙ ap (λ b. Some b) con) in
        record {
          named = r.named;
          place = r.place;
          data_at = get_left (map data_of t.constructors) (all_data ds) r.place (data_of c)
              (map_get data_of t.constructors r.place c r.at);
          type_place = 0;
          type_at = ap (λ t. Some t) type;
          con_place = r.place;
          con_at = ap (λ (t : TypeDecl). slice_get t.constructors r.place) (sym type) ∙ r.at;
        }
    by_found None i e k =
        let r = k e in
        record {
          named = r.named;
          place = length (map data_of t.constructors) + r.place;
          data_at = get_right (map data_of t.constructors) (all_data ds) r.place (data_of c)
              r.data_at;
          type_place = suc r.type_place;
          type_at = r.type_at;
          con_place = r.con_place;
          con_at = r.con_at;
        }

absent : (cs : List Constructor) (n j : ℕ) (c : Constructor) → constructor_in cs n ≡ None
    → slice_get cs j ≡ Some c → c.name.name.0 ≡ n → ⊥
absent [] n j c e h q = none_is_some h
absent (d ∷ cs) n j c e h q = by_test (nat_eq d.name.name.0 n) refl e j h
    (λ e j h. absent cs n j c e h q)
  where
    by_test : (b : Bool) → nat_eq d.name.name.0 n ≡ b → cond b (Some d) (constructor_in cs n) ≡ None
        → (j : ℕ) → slice_get (d ∷ cs) j ≡ Some c →
        (constructor_in cs n ≡ None → (j : ℕ) → slice_get cs j ≡ Some c → ⊥) → ⊥
    by_test true i e j h k = none_is_some (sym e)
    by_test false i e zero h k =
        let same : d.name.name.0 ≡ n = ap (λ (c : Constructor). c.name.name.0) (some_is h) ∙ q in
        let z : true ≡ false = sym (eq-eqb d.name.name.0 n same) ∙ i in absurd cc
    by_test false i e (suc j) h k = k e j h

-- each name is that of one constructor
abbrev pub Different : List tree.Data → Type 0
Different ds = (i j : ℕ) (c d : tree.Data) → slice_get ds i ≡ Some c → slice_get ds j ≡ Some d
    → d.name ≡ c.name → i ≡ j

pub data_place : (ds : List TypeDecl) (i j : ℕ) (d : TypeDecl) (c : Constructor)
    → slice_get ds i ≡ Some d → slice_get d.constructors j ≡ Some c → (k : ℕ)
    × (slice_get (flat_map data_in ds) k ≡ Some (data_of c))
data_place [] i j d c e h = none_is_some e
data_place (t ∷ ds) zero j d c e h = (
  j,
  get_left (map data_of t.constructors) (all_data ds) j (data_of c)
      (map_get data_of t.constructors j c
      (ap (λ (t : TypeDecl). slice_get t.constructors j) (some_is e) ∙ h)),
)
data_place (t ∷ ds) (suc i) j d c e h = let r = data_place ds i j d c e h
    in (
      length (map data_of t.constructors) + r.0,
      get_right (map data_of t.constructors)
          (all_data ds) r.0 (data_of c) r.1,
    )

pub declared_exactly : (ds : List TypeDecl) (i j : ℕ) (d : TypeDecl) (c : Constructor)
    → Different (flat_map data_in ds) → slice_get ds i ≡ Some d
    → slice_get d.constructors j ≡ Some c → constructor_by_name ds c.name.name.0 ≡ Some (d, c)
declared_exactly [] i j d c u e h = none_is_some e
declared_exactly (t ∷ ds) zero j d c u e h = by_found (constructor_in t.constructors c.name.name.0)
    refl
  where
    same : t ≡ d
    same = some_is e

    here : slice_get t.constructors j ≡ Some c
    here = ap (λ (t : TypeDecl). slice_get t.constructors j) same ∙ h

    by_found : (o : Option Constructor) → constructor_in t.constructors c.name.name.0 ≡ o
        → elim o as (λ _. Option (TypeDecl × Constructor))
        [ Some c ↦ Some (t, c) | None ↦ constructor_by_name ds c.name.name.0 ] ≡ Some (d, c)
    by_found None q = absurd (absent t.constructors c.name.name.0 j c q here refl)
    by_found (Some b) q =
        let r = in_type t.constructors c.name.name.0 b q in
        let left = get_left (map data_of t.constructors) (all_data ds) r.place (data_of b)
        (map_get data_of t.constructors r.place b r.at) in
        let right = get_left (map data_of t.constructors) (all_data ds) j (data_of c)
        (map_get data_of t.constructors j c here) in
        let places : r.place ≡ j = u r.place j (data_of b) (data_of c) left right (sym r.named) in
        let con : b ≡ c = some_is (sym r.at ∙ ap (λ n. slice_get t.constructors n) places ∙ here) in
        λ i. Some (same i, con i)
declared_exactly (t ∷ ds) (suc i) j d c u e h = by_found
    (constructor_in t.constructors c.name.name.0) refl (declared_exactly ds i j d c later e h)
    (data_place ds i j d c e h)
  where
    m : ℕ
    m = length (map data_of t.constructors)

    later : Different (flat_map data_in ds)
    later i j c d a b q =
        let k = u (m + i) (m + j) c d (get_right (map data_of t.constructors) (all_data ds) i c a)
        (get_right (map data_of t.constructors) (all_data ds) j d b) q in
        omega (arith, k)

    by_found : (o : Option Constructor) → constructor_in t.constructors c.name.name.0 ≡ o
        → constructor_by_name ds c.name.name.0 ≡ Some (d, c) → (k : ℕ)
        × (slice_get (flat_map data_in ds) k ≡ Some (data_of c))
        → elim o as (λ _. Option (TypeDecl × Constructor))
        [ Some c ↦ Some (t, c) | None ↦ constructor_by_name ds c.name.name.0 ] ≡ Some (d, c)
    by_found None q r k = r
    by_found (Some b) q r k =
        let w = in_type t.constructors c.name.name.0 b q in
        let at = map_get data_of t.constructors w.place b w.at in
        let left = get_left (map data_of t.constructors) (all_data ds) w.place (data_of b) at in
        let right = get_right (map data_of t.constructors) (all_data ds) k.0 (data_of c) k.1 in
        let places : w.place ≡ m + k.0 = u w.place (m + k.0) (data_of b) (data_of c) left right
        (sym w.named) in
        let lt : w.place < m = get_within (map data_of t.constructors) w.place (data_of b) at in
        absurd (omega (arith, places, lt))

-- each constructor is declared
abbrev IsDeclared : List TypeDecl → ℕ → Type 0
IsDeclared ds n = (d : TypeDecl) × (c : Constructor) × (constructor_by_name ds n ≡ Some (d, c))

is_declared_in : (cs : List Constructor) (rest : List tree.Data) (i : ℕ) (d : tree.Data)
    → slice_get (map data_of cs ++ rest) i ≡ Some d
    → ((c : Constructor) × (constructor_in cs d.name ≡ Some c))
    ⊎ ((constructor_in cs d.name ≡ None) × (j : ℕ) × (slice_get rest j ≡ Some d))
is_declared_in [] rest i d e = inr (refl, i, e)
is_declared_in (c ∷ cs) rest i d e = by_test (nat_eq c.name.name.0 d.name) refl i e
    (λ j q. is_declared_in cs rest j d q)
  where
    by_test : (b : Bool) → nat_eq c.name.name.0 d.name ≡ b → (i : ℕ)
        → slice_get (data_of c ∷ (map data_of cs ++ rest)) i ≡ Some d
        → ((j : ℕ) → slice_get (map data_of cs ++ rest) j ≡ Some d
        → ((x : Constructor) × (constructor_in cs d.name ≡ Some x))
        ⊎ ((constructor_in cs d.name ≡ None) × (j : ℕ) × (slice_get rest j ≡ Some d)))
        → ((x : Constructor) × (cond b (Some c) (constructor_in cs d.name) ≡ Some x))
        ⊎ ((cond b (Some c) (constructor_in cs d.name) ≡ None) × (j : ℕ)
        × (slice_get rest j ≡ Some d))
    by_test true t i e k = inl (c, refl)
    by_test false t zero e k =
        let same : c.name.name.0 ≡ d.name = ap (λ (d : tree.Data). d.name) (some_is e) in
        let z : true ≡ false = sym (eq-eqb c.name.name.0 d.name same) ∙ t in absurd cc
    by_test false t (suc i) e k = k i e

is_declared : (ds : List TypeDecl) (i : ℕ) (d : tree.Data)
    → slice_get (flat_map data_in ds) i ≡ Some d → IsDeclared ds d.name
is_declared [] i d e = none_is_some e
is_declared (t ∷ ds) i d e = by_found (constructor_in t.constructors d.name)
    (is_declared_in t.constructors (all_data ds) i d e) (λ j q. is_declared ds j d q)
  where
    by_found : (o : Option Constructor) → ((c : Constructor) × (o ≡ Some c))
        ⊎ ((o ≡ None) × (j : ℕ) × (slice_get (all_data ds) j ≡ Some d))
        → ((j : ℕ) → slice_get (all_data ds) j ≡ Some d → IsDeclared ds d.name)
        → (x : TypeDecl) × (c : Constructor) ×
        (elim o as (λ _. Option (TypeDecl × Constructor))
        [ Some c ↦ Some (t, c) | None ↦ constructor_by_name ds d.name ] ≡ Some (x, c))
    by_found (Some b) h k = (t, b, refl)
    by_found None (inl h) k = none_is_some h.1
    by_found None (inr h) k = k h.1 h.2

module _ (s : Source) (p : normal.Program) (unbroken : IsUnbroken s)
    (cons : Pairwise (IsConstructor (erased s)) (erased s).constructors p.cons) where
  -- constructors with one name are one
  pub one_place : (i j : ℕ) (c d : tree.Data) → slice_get (erased s).constructors i ≡ Some c
      → slice_get (erased s).constructors j ≡ Some d → d.name ≡ c.name → i ≡ j
  one_place i j c d a b e = by_test (nat_lt i j) (nat_lt j i) refl refl
    where
      by_test : (t u : Bool) → nat_lt i j ≡ t → nat_lt j i ≡ u → i ≡ j
      by_test true u k l = absurd
          (unbroken 11 d.at (InCore (core.DuplicateConstructor (ltb-true i j k) a b e)))
      by_test false true k l = absurd
          (unbroken 11 c.at (InCore (core.DuplicateConstructor (ltb-true j i l) b a (sym e))))
      by_test false false k l = let le = ltb-false i j k in let ge = ltb-false j i l
          in omega (arith, le, ge)

  pub one_data : (i j : ℕ) (c d : tree.Data) → slice_get (erased s).constructors i ≡ Some c
      → slice_get (erased s).constructors j ≡ Some d → d.name ≡ c.name → c ≡ d
  one_data i j c d a b e = some_is
      (sym a ∙ ap (λ n. slice_get (erased s).constructors n) (one_place i j c d a b e) ∙ b)

  pub record Known (n number : ℕ) : Type 0 where
    pub type : TypeDecl
    pub constructor : Constructor
    pub declared : constructor_by_name s.types n ≡ Some (type, constructor)
    pub at : slice_get (erased s).constructors number ≡ Some (data_of constructor)
    pub named : constructor.name.name.0 ≡ n

  -- the declaration of a constructor that has a number
  pub known : (n number : ℕ) → con_number (erased s) n ≡ Some number → Known n number
  known n number e =
      let r = placed (λ (d : tree.Data). nat_eq d.name n) (erased s).constructors number e in
      let same : r.item.name ≡ n = eqb-true r.item.name n r.passes in
      let d = is_declared s.types number r.item r.is in
      let i : constructor_by_name s.types n ≡ Some (d.0, d.1)
      = subst (λ n. constructor_by_name s.types n ≡ Some (d.0, d.1)) same d.2 in
      let h = declares s.types n d.0 d.1 i in
      let it : r.item ≡ data_of d.1 = one_data number h.place r.item (data_of d.1) r.is h.data_at
      (h.named ∙ sym same) in
      record {
        type = d.0;
        constructor = d.1;
        declared = i;
        at = r.is ∙ ap (λ d. Some d) it;
        named
            = h.named;
      }

  pub many : (var : ℕ → Typed) (ws : WrittenTypes) → length (read_list s var ws) ≡ count ws
  many var NoTypes = refl
  many var (AndType w ws) = ap suc (many var ws)

  -- the number of its fields
  pub known_fields : (n number k : ℕ) (h : Known n number) → HasFields p number k
      → count h.constructor.fields ≡ k
  known_fields n number k h f =
      let b = pair_back (IsConstructor (erased s)) (erased s).constructors p.cons number f.0 cons
      f.1 in
      let same : b.other ≡ data_of h.constructor = some_is (sym b.is ∙ h.at) in
      sym (ap (λ (d : tree.Data). d.fields) same) ∙ sym b.pair.fields ∙ f.2

  module _ (σ : Substitution) (ρ : Instance) where
    -- a constructor is used with all its fields
    pub con_fits : (n at number k : ℕ) (ts : List Typed) (r : Typed)
        → con_number (erased s) n ≡ Some number → HasFields p number k → length ts ≡ k
        → under_both σ ρ (constructor_type s n at) ≡ arrows ts r → ConstructorHasType s number ts r
    con_fits n at number k ts r e f long q =
        let h = known n number e in
        let c = both_carry σ ρ in
        let F : Typed → Typed = under_both σ ρ in
        let var : ℕ → Typed = λ n. F (used_at s at n) in
        let here : constructor_type s n at ≡ arrows
        (read_list s (used_at s at) h.constructor.fields) (applied s h.type (used_at s at))
        = ap (λ o. elim o as (λ _. Typed) [
          | Some x ↦ arrows (read_list s (used_at s at) x.1.fields) (applied s x.0 (used_at s at))
          | None ↦ Int
        ]) h.declared in
        let there : F
        (arrows (read_list s (used_at s at) h.constructor.fields)
        (applied s h.type (used_at s at))) ≡ arrows (read_list s var h.constructor.fields)
        (applied s h.type var) =
        carry_arrows F _ c (read_list s (used_at s at) h.constructor.fields)
        (applied s h.type (used_at s at)) ∙
        (λ i. arrows (carry_list F _ c s (used_at s at) h.constructor.fields i)
        (carry_applied F _ c s (used_at s at) h.type i)) in
        let same = arrows_same (read_list s var h.constructor.fields) ts (applied s h.type var) r
        (many var h.constructor.fields ∙ known_fields n number k h f ∙ sym long)
        (sym there ∙ ap F (sym here) ∙ q) in
        record {
          name = n;
          number = e;
          type = h.type;
          constructor = h.constructor;
          declared
              = h.declared;
          var = var;
          fields = sym same.0;
          result = sym same.1;
        }
