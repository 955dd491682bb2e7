-- A declaration whose name an earlier one has.
use Rattle.std.proofs.Common.{◌≡◌, ℕ, zero, suc, ◌+◌, ◌<◌, ◌≤◌, Bool, true, false, cond, List, [], ◌∷◌, length, refl, sym, ap, ◌∙◌, arith, Option, Some, None}
use Rattle.std.specs.Prelude.{◌==◌, nat_lt, slice_get, if◌then◌else◌}
use Rattle.std.specs.List.{position_from}
use Rattle.std.proofs.lemmas.Bool.{eqb-true, eq-eqb}
use Rattle.core_reader.specs.Tree.{Function}
use Rattle.arity_check.specs.Tables.{first_of}
use Rattle.arity_check.specs.Whole.{function_at}
use Rattle.core_link.specs.Bound.{is_redeclaration, numbered}
use Rattle.core_link.proofs.Firsts.{PassedAt}

-- ---- items with their numbers

numbered_at : {X : Type 0} (i : ℕ) (xs : List X) (n : ℕ) (q : ℕ × X)
    → slice_get (numbered i xs) n ≡ Some q → (q.0 ≡ i + n) × (slice_get xs n ≡ Some q.1)
numbered_at i [] n q e = absurd cc
numbered_at i (x ∷ xs) zero q e =
    let same : (i, x) ≡ q = cc in
    let number : q.0 ≡ i = ap (λ w. w.0) (sym same) in
    (omega (arith, number), ap (λ w. Some w.1) same)
numbered_at i (x ∷ xs) (suc n) q e = let w = numbered_at (i + 1) xs n q e in let number = w.0
    in (omega (arith, number), w.1)

at_numbered : {X : Type 0} (i : ℕ) (xs : List X) (n : ℕ) (x : X) → slice_get xs n ≡ Some x
    → slice_get (numbered i xs) n ≡ Some (i + n, x)
at_numbered i [] n x e = absurd cc
at_numbered i (y ∷ xs) zero x e =
    let same : y ≡ x = cc in
    let number : i ≡ i + zero = omega arith in
    λ j. Some (number j, same j)
at_numbered i (y ∷ xs) (suc n) x e =
    let number : i + 1 + n ≡ i + suc n = omega arith in
    at_numbered (i + 1) xs n x e ∙ ap (λ k. Some (k, x)) number

-- ---- the first item that passes a test

record Placed {X : Type 0} (test : X → Bool) (b n : ℕ) (xs : List X) : Type 0 where
  place : ℕ
  item : X
  number : n ≡ b + place
  is : slice_get xs place ≡ Some item
  passes : test item ≡ true

placed : {X : Type 0} (test : X → Bool) (b n : ℕ) (xs : List X) → position_from test b xs ≡ Some n
    → Placed test b n xs
placed test b n [] e = absurd cc
placed {X = X} test b n (x ∷ xs) e = go (λ f. placed test (b + 1) n xs f) (test x) refl e
  where
    go : (position_from test (b + 1) xs ≡ Some n → Placed test (b + 1) n xs) → (c : Bool)
        → test x ≡ c → cond c (Some b) (position_from test (b + 1) xs) ≡ Some n
        → Placed test b n (x ∷ xs)
    go more true t f = let same : b ≡ n = cc in record
        { place = zero; item = x; number = omega (arith, same); is = refl; passes = t }
    go more false t f =
        let w = more f in
        let number = w.number in
        record {
          place = suc w.place;
          item = w.item;
          number = omega (arith, number);
          is
              = w.is;
          passes = w.passes;
        }

record Found {X : Type 0} (test : X → Bool) (b i : ℕ) (xs : List X) : Type 0 where
  number : ℕ
  is : position_from test b xs ≡ Some number
  before : number ≤ b + i

found : {X : Type 0} (test : X → Bool) (b : ℕ) (xs : List X) (i : ℕ) (y : X)
    → slice_get xs i ≡ Some y → test y ≡ true → Found test b i xs
found test b [] i y e t = absurd cc
found test b (x ∷ xs) zero y e t =
    let same : x ≡ y = cc in
    record {
      number = b;
      is = ap (λ c. cond c (Some b) (position_from test (b + 1) xs))
          (ap test same ∙ t);
      before = omega arith;
    }
found test b (x ∷ xs) (suc i) y e t = go (found test (b + 1) xs i y e t) (test x) refl
  where
    go : Found test (b + 1) i xs → (c : Bool) → test x ≡ c → Found test b (suc i) (x ∷ xs)
    go w true s = record {
      number = b;
      is = ap (λ c. cond c (Some b) (position_from test (b + 1) xs)) s;
      before
          = omega arith;
    }
    go w false s =
        let before = w.before in
        record {
          number = w.number;
          is = ap (λ c. cond c (Some b) (position_from test (b + 1) xs)) s
              ∙ w.is;
          before = omega (arith, before);
        }

pub function_placed : (fs : List Function) (b x : ℕ)
    → first_of (function_at fs b x) ≡ position_from (λ (f : Function). f.name == x) b fs
function_placed [] b x = refl
function_placed (f ∷ fs) b x = go (function_placed fs (b + 1) x) (f.name == x)
  where
    go : first_of (function_at fs (b + 1) x) ≡ position_from (λ (f : Function). f.name == x) (b + 1)
        fs → (c : Bool) → first_of
        (if c then Some (b, length f.params) else function_at fs (b + 1) x) ≡ cond c (Some b)
        (position_from (λ (f : Function). f.name == x) (b + 1) fs)
    go rest true = refl
    go rest false = rest

-- ---- a name that stands twice

module _ {X : Type 0} (name place : X → ℕ) (xs : List X) where
  -- a later item has the name of an earlier one
  pub record Twice (at : ℕ) : Type 0 where
    pub i : ℕ
    pub j : ℕ
    pub one : X
    pub other : X
    pub before : i < j
    pub is_one : slice_get xs i ≡ Some one
    pub is_other : slice_get xs j ≡ Some other
    pub same : name other ≡ name one
    pub there : place other ≡ at

  module _ (number : ℕ → Option ℕ)
      (first : (x : ℕ) → number x ≡ position_from (λ y. name y == x) 0 xs) where
    abbrev Later : ℕ × X → Bool
    Later q = is_redeclaration (number (name q.1)) q.0

    pub twice : (at : ℕ) → PassedAt Later (λ q. place q.1) (numbered 0 xs) at → Twice at
    twice at w = go (number (name w.item.1)) refl w.passes
      where
        go : (o : Option ℕ) → number (name w.item.1) ≡ o → is_redeclaration o w.item.0 ≡ true
            → Twice at
        go None e h = absurd cc
        go (Some n) e h =
            let q = w.item in
            let here = numbered_at 0 xs w.number q w.is in
            let p = placed (λ y. name y == name q.1) 0 n xs (sym (first (name q.1)) ∙ e) in
            let a = p.number in
            let b = here.0 in
            let lt : n < q.0 = grind (arith, h) in
            record {
              i = p.place;
              j = w.number;
              one = p.item;
              other = q.1;
              before
                  = omega (arith, a, b, lt);
              is_one = p.is;
              is_other = here.1;
              same
                  = sym (eqb-true (name p.item) (name q.1) p.passes);
              there = w.there;
            }

    pub of_twice : (at : ℕ) → Twice at → PassedAt Later (λ q. place q.1) (numbered 0 xs) at
    of_twice at t =
        let f = found (λ y. name y == name t.other) 0 xs t.i t.one t.is_one
        (eq-eqb (name t.one) (name t.other) (sym t.same)) in
        let a = f.before in
        let b = t.before in
        let lt : f.number < 0 + t.j = omega (arith, a, b) in
        let later : nat_lt f.number (0 + t.j) ≡ true = grind (arith, lt) in
        record {
          number = t.j;
          item = (0 + t.j, t.other);
          is
              = at_numbered 0 xs t.j t.other t.is_other;
          passes
              = ap (λ o. is_redeclaration o (0 + t.j)) (first (name t.other) ∙ f.is) ∙ later;
          there
              = t.there;
        }
