-- How the variables and the arguments of the two programs are related: in place of a cell stand the
-- fields that its node
-- has at the end of the run.
use Rattle.std.proofs.Common.{◌≡◌, ◌≢◌, ℕ, suc, ◌+◌, ◌<◌, ◌≤◌, Bool, true, false, cond, nat_eq, List, [], ◌∷◌, ◌++◌, length, Option, Some, None, slice_get, refl, sym, ap, ◌∙◌, subst, arith}
use Rattle.seq.proofs.Order.{eq_from, eq_false}
use Rattle.grin_syntax.specs.Formed.{AllOf}
use Rattle.grin_meaning.specs.Values.{Datum, cell, Value, words, Env, HeapCell, Binding, with_vars}
use Rattle.grin_meaning.proofs.Plain.{Has, vars_have}
use Rattle.raise_theory.specs.Raising.{Raising, Decisions}
use Rattle.pass_ground.proofs.Bound.{names_of}

-- variables in a row have these words
abbrev pub EachIs : Env → ℕ → List Datum → Type 0
EachIs env k [] = Unit {0}
EachIs env k (d ∷ ds) = (env k ≡ Some (words (d ∷ []))) × EachIs env (suc k) ds

pub each_same : (env env2 : Env) (k : ℕ) (ds : List Datum)
    → ((j : ℕ) → k ≤ j → j < k + length ds → env2 j ≡ env j) → EachIs env k ds → EachIs env2 k ds
each_same env env2 k [] f h = tt
each_same env env2 k (d ∷ ds) f h = (
  f k (omega arith) (omega arith) ∙ h.0,
  each_same env env2 (suc k) ds
      (λ j le lt. f j (omega (arith, le)) (omega (arith, lt))) h.1,
)

-- an environment with the same variables below n
abbrev pub Agrees : ℕ → Env → Env → Type 0
Agrees n env env2 = (y : ℕ) → y < n → env2 y ≡ env y

-- a variable of the first program that stays
abbrev pub Plain : ℕ → (ℕ → Option Raising) → ℕ → Type 0
Plain base N y = y < base × (N y ≡ None)

-- what stands in place of others are new variables below top
abbrev pub NewOnes : ℕ → ℕ → (ℕ → Option Raising) → Type 0
NewOnes base top N = (y : ℕ) (r : Raising) → N y ≡ Some r → (j : ℕ) → r.first.0 ≤ j
    → j < r.first.0 + r.fields → base ≤ j × j < top

module _ (F : List HeapCell) where
  -- a cell whose node has in F the tag of r, and as many fields
  pub record Held (r : Raising) (x : Datum) : Type 0 where
    pub c : ℕ
    pub is : x ≡ cell c
    pub y : HeapCell
    pub there : slice_get F c ≡ Some y
    pub its_tag : y.node.tag ≡ r.tag.0
    pub many : length y.node.fields ≡ r.fields

  -- the arguments of a call, by what is decided of the parameters
  abbrev pub ArgsFor : Decisions → List Datum → List Datum → Type 0
  ArgsFor [] xs xs' = xs' ≡ xs
  ArgsFor (d ∷ ds) [] xs' = xs' ≡ []
  ArgsFor (None ∷ ds) (x ∷ xs) xs' = (rest : List Datum) × (xs' ≡ x ∷ rest) × ArgsFor ds xs rest
  ArgsFor (Some r ∷ ds) (x ∷ xs) xs' = (h : Held r x) × (rest : List Datum)
      × (xs' ≡ h.y.node.fields ++ rest) × ArgsFor ds xs rest

  -- where an argument is to be raised, it is a cell whose node is already that at the end
  abbrev pub CellsReady : List HeapCell → Decisions → List Datum → Type 0
  CellsReady cells [] xs = Unit {0}
  CellsReady cells (d ∷ ds) [] = Unit {0}
  CellsReady cells (None ∷ ds) (x ∷ xs) = CellsReady cells ds xs
  CellsReady cells (Some r ∷ ds) (x ∷ xs) = (k : Held r x) × (slice_get cells k.c ≡ Some k.y)
      × CellsReady cells ds xs

  -- what stands in place of a variable
  pub record FieldsOf (r : Raising) (v : Value) (env' : Env) : Type 0 where
    pub x : Datum
    pub is : v ≡ words (x ∷ [])
    pub held : Held r x
    pub each : EachIs env' r.first.0 held.y.node.fields

  -- The variables below base are those of the first program. Each that is bound there is bound to
  -- the same
  -- in the second, or to the fields in its place
  pub record Related (base : ℕ) (N : ℕ → Option Raising) (env env' : Env) : Type 0 where
    pub same : Has (λ y. N y ≡ None) env env'
    pub low : (y : ℕ) (v : Value) → env y ≡ Some v → y < base
    pub fields : (y : ℕ) (r : Raising) (v : Value) → N y ≡ Some r → env y ≡ Some v
        → FieldsOf r v env'

  module _ (base top : ℕ) (N : ℕ → Option Raising) (new : NewOnes base top N) where
    -- both bind one
    related_one : (b : Binding) (env env' : Env) → Plain base N b.0 → Related base N env env'
        → Related base N (λ y. cond (nat_eq y b.0) (Some b.1) (env y))
        (λ y. cond (nat_eq y b.0) (Some b.1) (env' y))
    related_one b env env' p r = record {
      same = vars_have (λ y. N y ≡ None) (b ∷ []) env env' r.same;
      low = λ y v e. low y v (nat_eq y b.0) refl e;
      fields = λ y k v n e. fields y k v n (nat_eq y b.0) refl e;
    }
      where
        low : (y : ℕ) (v : Value) (t : Bool) → nat_eq y b.0 ≡ t → cond t (Some b.1) (env y) ≡ Some v
            → y < base
        low y v true q e = subst (λ z. z < base) (sym (eq_from y b.0 q)) p.0
        low y v false q e = r.low y v e

        out : (k : Raising) (y : ℕ) → N y ≡ Some k → (j : ℕ) → k.first.0 ≤ j
            → j < k.first.0 + k.fields → cond (nat_eq j b.0) (Some b.1) (env' j) ≡ env' j
        out k y n j le lt =
            let in_new : base ≤ j × j < top = new y k n j le lt in
            let ne : j ≢ b.0 = λ q.
            (let l : b.0 < base = p.0 in let m : base ≤ j = in_new.0 in omega (arith, l, m, q))
            in
            ap (λ t. cond t (Some b.1) (env' j)) (eq_false j b.0 ne)

        fields : (y : ℕ) (k : Raising) (v : Value) → N y ≡ Some k → (t : Bool) → nat_eq y b.0 ≡ t
            → cond t (Some b.1) (env y) ≡ Some v → FieldsOf k v
            (λ z. cond (nat_eq z b.0) (Some b.1) (env' z))
        fields y k v n true q e =
            let none : N y ≡ None = ap N (eq_from y b.0 q) ∙ p.1 in
            let both : Some k ≡ None = sym n ∙ none in
            cc
        fields y k v n false q e =
            let f : FieldsOf k v env' = r.fields y k v n e in
            record {
              x = f.x;
              is = f.is;
              held = f.held;
              each
                  = each_same env' _ k.first.0 f.held.y.node.fields
                  (λ j le lt. out k y n j le
                  (let m : length f.held.y.node.fields ≡ k.fields = f.held.many
                  in omega (arith, lt, m))) f.each;
            }

    pub related_bind : (bs : List Binding) (env env' : Env) → AllOf (Plain base N) (names_of bs)
        → Related base N env env' → Related base N (with_vars bs env) (with_vars bs env')
    related_bind [] env env' p r = r
    related_bind (b ∷ bs) env env' p r = related_bind bs _ _ p.1 (related_one b env env' p.0 r)

    -- the second binds new ones alone
    pub related_new : (env env' env2 : Env) → base ≤ top → Agrees top env' env2
        → Related base N env env' → Related base N env env2
    related_new env env' env2 le a r = record {
      same = λ y v n e.
          (let l : y < base = r.low y v e in a y (omega (arith, l, le)) ∙ r.same y v n e);
      low = r.low;
      fields = λ y k v n e. (let f : FieldsOf k v env' = r.fields y k v n e in
          record {
            x = f.x;
            is = f.is;
            held = f.held;
            each
                = each_same env' env2 k.first.0 f.held.y.node.fields
                (λ j ge lt. a j
                (new y k n j ge
                (let m : length f.held.y.node.fields ≡ k.fields = f.held.many
                in omega (arith, lt, m))).1) f.each;
          });
    }
