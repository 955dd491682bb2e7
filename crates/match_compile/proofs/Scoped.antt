-- In the scope of a tree as an expression each place that is known has a local: its name stands for
-- it, and no other
-- name stands for a local.
use Rattle.std.proofs.Common.{◌≡◌, ℕ, suc, ◌+◌, ◌<◌, ◌≤◌, Bool, true, false, List, [], ◌∷◌, map, length, refl, sym, ap, subst, ◌∙◌, arith, Some, None, ◌⊎◌, inl, inr}
use Rattle.std.specs.Prelude.{◌==◌, codes, if◌then◌else◌}
use Rattle.std.specs.List.{range_with_len}
use Rattle.seq.specs.Lists.{AllOf, In, here, there}
use Rattle.seq.proofs.Lists.{get_within}
use Rattle.seq.proofs.Member.{none_in}
use Rattle.seq.proofs.Order.{eq_from, eq_self, eq_false, differs_from}
use Rattle.core_reader.specs.declared.syntax.Binder.{Binder}
use Rattle.core_reader.specs.Tree.{Program}
use Rattle.arity_check.specs.declared.meaning.Meaning.TheVariants as stands
use Rattle.arity_check.specs.Locals.{innermost_local}
use Rattle.arity_check.specs.Scope.{Scope, is_named, found_in, function_from, binds, binds_all}
use Rattle.match_compile.specs.Source.{Source}
use Rattle.match_compile.specs.Rules.{Broken}
use Rattle.match_compile.specs.Trees.{Tree}
use Rattle.match_compile.specs.Renamed.{renamed_name}
use Rattle.match_compile.specs.Translated.{name_supply_of, all_bind, most_params, place_name, binders, translated}
use Rattle.match_compile.proofs.Grouped.{Differ, all_of}
use Rattle.match_compile.proofs.RowPlaces.{NotIn}
use Rattle.match_compile.proofs.Sown.{Fine}
use Rattle.match_compile.proofs.Placed.{WasRead, IsPlace, place_once, bound_name}
use Rattle.match_compile.proofs.Coded.{Places, local_of, InScope, Fresh}

-- ---- places with their locals

pub data Found (ctx : Places) (p m q : ℕ) : Type 0 where
  IsNew : p ≡ q → local_of ((p, m) ∷ ctx) q ≡ m → Found ctx p m q
  IsOld : (p ≡ q → ⊥) → InScope ctx q → local_of ((p, m) ∷ ctx) q ≡ local_of ctx q → Found ctx p m q

pub found : (ctx : Places) (p m q : ℕ) → InScope ((p, m) ∷ ctx) q → Found ctx p m q
found ctx p m q h = by (p == q) refl h.is
  where
    by : (b : Bool) → (p == q) ≡ b → (if b then Some m else innermost_local ctx q) ≡ Some h.local
        → Found ctx p m q
    by true e i = IsNew (eq_from p q e)
        (ap (λ b. elim (if b then Some m else innermost_local ctx q) as (λ _. ℕ)
        [ Some y ↦ y | None ↦ 0 ]) e)
    by false e i = IsOld (differs_from p q e) (record { local = h.local; is = i })
        (ap (λ b. elim (if b then Some m else innermost_local ctx q) as (λ _. ℕ)
        [ Some y ↦ y | None ↦ 0 ]) e)

pub new_in : (ctx : Places) (p m : ℕ) → InScope ((p, m) ∷ ctx) p
new_in ctx p m = record
    { local = m; is = ap (λ b. if b then Some m else innermost_local ctx p) (eq_self p) }

pub old_in : (ctx : Places) (p m q : ℕ) → InScope ctx q → InScope ((p, m) ∷ ctx) q
old_in ctx p m q h = by (p == q) refl
  where
    by : (b : Bool) → (p == q) ≡ b → InScope ((p, m) ∷ ctx) q
    by true e = record { local = m; is = ap (λ b. if b then Some m else innermost_local ctx q) e }
    by false e = record
        { local = h.local; is = ap (λ b. if b then Some m else innermost_local ctx q) e ∙ h.is }

-- the locals from m on for these places
abbrev pub zipped : List ℕ → ℕ → Places → Places
zipped [] m ctx = ctx
zipped (p ∷ ps) m ctx = zipped ps (m + 1) ((p, m) ∷ ctx)

pub zipped_old : (ps : List ℕ) (m : ℕ) (ctx : Places) (q : ℕ) → NotIn q ps
    → innermost_local (zipped ps m ctx) q ≡ innermost_local ctx q
zipped_old [] m ctx q n = refl
zipped_old (p ∷ ps) m ctx q n =
    zipped_old ps (m + 1) ((p, m) ∷ ctx) q (λ i. n (there i))
    ∙ ap (λ b. if b then Some m else innermost_local ctx q)
    (eq_false p q (λ e. n (subst (λ z. In z (p ∷ ps)) e here)))

pub zipped_in : (ps : List ℕ) (m : ℕ) (ctx : Places) (q : ℕ) → InScope ctx q
    → InScope (zipped ps m ctx) q
zipped_in [] m ctx q h = h
zipped_in (p ∷ ps) m ctx q h = zipped_in ps (m + 1) ((p, m) ∷ ctx) q (old_in ctx p m q h)

pub zipped_new : (ps : List ℕ) (m : ℕ) (ctx : Places) (q : ℕ) → In q ps
    → InScope (zipped ps m ctx) q
zipped_new [] m ctx q i = none_in i
zipped_new (p ∷ ps) m ctx q here = zipped_in ps (m + 1) ((p, m) ∷ ctx) p (new_in ctx p m)
zipped_new (p ∷ ps) m ctx q (there i) = zipped_new ps (m + 1) ((p, m) ∷ ctx) q i

pub zipped_back : (ps : List ℕ) (m : ℕ) (ctx : Places) (q : ℕ) → InScope (zipped ps m ctx) q
    → In q ps ⊎ InScope ctx q
zipped_back [] m ctx q h = inr h
zipped_back (p ∷ ps) m ctx q h = by (zipped_back ps (m + 1) ((p, m) ∷ ctx) q h)
  where
    at_first : Found ctx p m q → In q (p ∷ ps) ⊎ InScope ctx q
    at_first (IsNew e l) = inl (subst (λ z. In z (p ∷ ps)) e here)
    at_first (IsOld n i l) = inr i

    by : In q ps ⊎ InScope ((p, m) ∷ ctx) q → In q (p ∷ ps) ⊎ InScope ctx q
    by (inl i) = inl (there i)
    by (inr i) = at_first (found ctx p m q i)

pub local_is : (ctx ctx' : Places) (q : ℕ) → innermost_local ctx' q ≡ innermost_local ctx q
    → local_of ctx' q ≡ local_of ctx q
local_is ctx ctx' q e = ap (λ o. elim o as (λ _. ℕ) [ Some y ↦ y | None ↦ 0 ]) e

pub zipped_locals : (ps : List ℕ) (m : ℕ) (ctx : Places) → Differ ps
    → map (local_of (zipped ps m ctx)) ps ≡ range_with_len m (length ps)
zipped_locals [] m ctx d = refl
zipped_locals (p ∷ ps) m ctx d =
    let past : NotIn p ps = λ i. all_of (λ y. y ≡ p → ⊥) ps d.0 i refl in
    let first : local_of (zipped ps (m + 1) ((p, m) ∷ ctx)) p ≡ m =
    local_is ((p, m) ∷ ctx) (zipped ps (m + 1) ((p, m) ∷ ctx)) p
    (zipped_old ps (m + 1) ((p, m) ∷ ctx) p past) ∙ ap
    (λ b. elim (if b then Some m else innermost_local ctx p) as (λ _. ℕ)
    [ Some y ↦ y | None ↦ 0 ]) (eq_self p) in
    λ i. first i ∷ zipped_locals ps (m + 1) ((p, m) ∷ ctx) d.1 i

pub each_new : (ps : List ℕ) (P : ℕ → Type 0) → ((q : ℕ) → In q ps → P q) → AllOf P ps
each_new [] P h = tt
each_new (p ∷ ps) P h = (h p here, each_new ps P (λ q i. h q (there i)))

-- the fields of a branch have new locals
pub zipped_fresh : (ps : List ℕ) (m : ℕ) (ctx : Places) → Differ ps
    → ((q : ℕ) → In q ps → InScope ctx q → ⊥) → Fresh ctx (zipped ps m ctx) ps
    (range_with_len m (length ps))
zipped_fresh ps m ctx d apart = record {
  same = λ q i. local_is ctx (zipped ps m ctx) q (zipped_old ps m ctx q (λ j. apart q j i));
  more = λ q i. zipped_in ps m ctx q i;
  new = each_new ps (InScope (zipped ps m ctx)) (λ q i. zipped_new ps m ctx q i);
  locals = zipped_locals ps m ctx d;
}

-- ---- names that stand for them

module _ (c : Source) (unbroken : (k at : ℕ) → Broken c k at → ⊥) (read : WasRead c) (params : ℕ)
    (within_most : params ≤ most_params c.equations) where
  abbrev out : Program
  out = translated c

  abbrev pub Place : (ℕ → ℕ → Bool) → ℕ → ℕ → Type 0
  Place = IsPlace c unbroken read params within_most

  -- in a scope where the locals from n on are free
  pub record At (ctx : Places) (binding : ℕ → ℕ → Bool) (places s : Scope) (n : ℕ) : Type 0 where
    pub place : (p : ℕ) → InScope ctx p → Place binding p (renamed_name places p)
    pub name : (p : ℕ) → InScope ctx p →
        (renamed_name places p ≡ place_name (name_supply_of c) params p)
        ⊎ (renamed_name places p < length c.names)
    pub local : (p : ℕ) → InScope ctx p → is_named out (codes "_") (renamed_name places p) ≡ false
        → found_in out s (renamed_name places p) ≡ stands.Local (local_of ctx p)
    pub free : (y : ℕ) → ((p : ℕ) → InScope ctx p → renamed_name places p ≡ y → ⊥)
        → found_in out s y ≡ function_from out out.functions 0 y
    pub below : (p : ℕ) → InScope ctx p → local_of ctx p < n
    pub once : (q p : ℕ) → InScope ctx q → InScope ctx p → local_of ctx q ≡ local_of ctx p → q ≡ p

  pub nowhere_at : (binding : ℕ → ℕ → Bool) (places : Scope) (n : ℕ) → At [] binding places [] n
  nowhere_at binding places n = record {
    place = λ p i. absurd (none i);
    name = λ p i. absurd (none i);
    local = λ p i e. absurd (none i);
    free = λ y h. refl;
    below = λ p i. absurd (none i);
    once = λ q p i j e. absurd (none i);
  }
    where
      none : {p : ℕ} → InScope [] p → ⊥
      none i = let e = i.is in absurd cc

  pub at_later : (ctx : Places) (binding : ℕ → ℕ → Bool) (places s : Scope) (n m : ℕ) → n ≤ m
      → At ctx binding places s n → At ctx binding places s m
  at_later ctx binding places s n m le a = record {
    place = a.place;
    name = a.name;
    local = a.local;
    free = a.free;
    below = λ p i. let lt
        = a.below p i in omega (arith, lt, le);
    once = a.once;
  }

  -- fewer rows bind more
  pub at_fewer : (ctx : Places) (f g : ℕ → ℕ → Bool) (places s : Scope) (n : ℕ)
      → ((p y : ℕ) → f p y ≡ true → g p y ≡ true) → At ctx f places s n → At ctx g places s n
  at_fewer ctx f g places s n h a = record {
    place = λ p i. less p (renamed_name places p) (a.place p i);
    name = a.name;
    local
        = a.local;
    free = a.free;
    below = a.below;
    once = a.once;
  }
    where
      less : (p y : ℕ) → Place f p y → Place g p y
      less p y (inl e) = inl e
      less p y (inr e) = inr (h p y e)

  -- the same names for what is known
  pub at_places : (ctx : Places) (binding : ℕ → ℕ → Bool) (places places' s : Scope) (n : ℕ)
      → ((p : ℕ) → InScope ctx p → renamed_name places' p ≡ renamed_name places p)
      → At ctx binding places s n → At ctx binding places' s n
  at_places ctx binding places places' s n h a = record {
    place = λ p i. subst (Place binding p) (sym (h p i)) (a.place p i);
    name = λ p i. subst (λ y. (y ≡ place_name (name_supply_of c) params p) ⊎ (y < length c.names))
        (sym (h p i)) (a.name p i);
    local = λ p i e. subst (λ y. found_in out s y ≡ stands.Local (local_of ctx p)) (sym (h p i))
        (a.local p i (ap (is_named out (codes "_")) (sym (h p i)) ∙ e));
    free = λ y f. a.free y (λ p i e. f p i (h p i ∙ e));
    below = a.below;
    once = a.once;
  }

  module _ (N : ℕ) (ks : List ℕ) (t : Tree) (fine : Fine c N ks t) where
    abbrev Binding : ℕ → ℕ → Bool
    Binding p x = all_bind p x t

    -- one more place, whose name is bound here
    one_at : (ctx : Places) (places s : Scope) (n p : ℕ) → (InScope ctx p → ⊥)
        → At ctx Binding places s n → Place Binding p (renamed_name places p)
        → At ((p, n) ∷ ctx) Binding places (binds out (renamed_name places p) n s) (n + 1)
    one_at ctx places s n p new a is = record
        { place = place; name = name; local = local; free = free; below = below; once = once }
      where
        y : ℕ
        y = renamed_name places p

        inner : Scope
        inner = binds out y n s

        place : (q : ℕ) → InScope ((p, n) ∷ ctx) q → Place Binding q (renamed_name places q)
        place q i = by (found ctx p n q i)
          where
            by : Found ctx p n q → Place Binding q (renamed_name places q)
            by (IsNew e l) = subst (λ z. Place Binding z (renamed_name places z)) e is
            by (IsOld m j l) = a.place q j

        old_or_new : (q z : ℕ) → Place Binding q z → (z ≡ place_name (name_supply_of c) params q)
            ⊎ (z < length c.names)
        old_or_new q z (inl e) = inl e
        old_or_new q z (inr b) =
            let w = bound_name c unbroken read N ks t fine q z b in
            let r = read.patterns w.0 w.1 w.2.0 w.2.1 in
            let lt = get_within c.names w.2.0.name.0 r.0 r.1 in
            let same = w.2.2 in
            inr (omega (arith, lt, same))

        name : (q : ℕ) → InScope ((p, n) ∷ ctx) q →
            (renamed_name places q ≡ place_name (name_supply_of c) params q)
            ⊎ (renamed_name places q < length c.names)
        name q i = old_or_new q (renamed_name places q) (place q i)

        first : is_named out (codes "_") y ≡ false → found_in out inner y ≡ stands.Local n
        first e = ap (λ b. found_in out (if b then s else (y, n) ∷ s) y) e ∙ ap
            (λ b. if b then stands.Local n else found_in out s y) (eq_self y)

        other : (z : ℕ) → (y ≡ z → ⊥) → found_in out inner z ≡ found_in out s z
        other z d = go (is_named out (codes "_") y)
          where
            go : (b : Bool) → found_in out (if b then s else (y, n) ∷ s) z ≡ found_in out s z
            go true = refl
            go false = ap (λ b. if b then stands.Local n else found_in out s z) (eq_false y z d)

        local : (q : ℕ) → InScope ((p, n) ∷ ctx) q → is_named out (codes "_")
            (renamed_name places q) ≡ false → found_in out inner (renamed_name places q) ≡
            stands.Local (local_of ((p, n) ∷ ctx) q)
        local q i u = by (found ctx p n q i)
          where
            by : Found ctx p n q → found_in out inner (renamed_name places q) ≡ stands.Local
                (local_of ((p, n) ∷ ctx) q)
            by (IsNew e l) =
                let same : renamed_name places q ≡ y = ap (renamed_name places) (sym e) in
                ap (found_in out inner) same ∙ first (ap (is_named out (codes "_")) (sym same) ∙ u)
                ∙ ap stands.Local (sym l)
            by (IsOld m j l) =
                other (renamed_name places q)
                (λ e. place_once c unbroken read params within_most N ks t fine p q
                (renamed_name places q) m (subst (Place Binding p) e is) (a.place q j) u)
                ∙ a.local q j u ∙ ap stands.Local (sym l)

        free : (z : ℕ) → ((q : ℕ) → InScope ((p, n) ∷ ctx) q → renamed_name places q ≡ z → ⊥)
            → found_in out inner z ≡ function_from out out.functions 0 z
        free z h = other z (λ e. h p (new_in ctx p n) e) ∙ a.free z
            (λ q i. h q (old_in ctx p n q i))

        below : (q : ℕ) → InScope ((p, n) ∷ ctx) q → local_of ((p, n) ∷ ctx) q < n + 1
        below q i = by (found ctx p n q i)
          where
            by : Found ctx p n q → local_of ((p, n) ∷ ctx) q < n + 1
            by (IsNew e l) = omega (arith, l)
            by (IsOld m j l) = let lt = a.below q j in omega (arith, l, lt)

        once : (q r : ℕ) → InScope ((p, n) ∷ ctx) q → InScope ((p, n) ∷ ctx) r
            → local_of ((p, n) ∷ ctx) q ≡ local_of ((p, n) ∷ ctx) r → q ≡ r
        once q r i j e = by (found ctx p n q i) (found ctx p n r j)
          where
            by : Found ctx p n q → Found ctx p n r → q ≡ r
            by (IsNew a' l) (IsNew b' k) = sym a' ∙ b'
            by (IsNew a' l) (IsOld m v k) = let lt = a.below r v
                in absurd (omega (arith, e, l, k, lt))
            by (IsOld m v l) (IsNew b' k) = let lt = a.below q v
                in absurd (omega (arith, e, l, k, lt))
            by (IsOld m v l) (IsOld m' w k) = a.once q r v w (sym l ∙ e ∙ k)

    -- places whose names are bound here, in order
    pub all_at : (at : ℕ) (ps : List ℕ) (ctx : Places) (places s : Scope) (n : ℕ) → Differ ps
        → ((p : ℕ) → In p ps → InScope ctx p → ⊥) → At ctx Binding places s n
        → ((p : ℕ) → In p ps → Place Binding p (renamed_name places p))
        → At (zipped ps n ctx) Binding places
        (binds_all out
        (map (λ (b : Binder). b.name.0) (binders (name_supply_of c) at params places ps))
        (range_with_len n (length ps)) s) (n + length ps)
    all_at at [] ctx places s n d new a are = let z : n ≡ n + 0 = omega arith
        in subst (At ctx Binding places s) z a
    all_at at (p ∷ ps) ctx places s n d new a are =
        let z : n + 1 + length ps ≡ n + suc (length ps) = omega arith in
        let inner : Scope = binds out (renamed_name places p) n s in
        subst (At (zipped ps (n + 1) ((p, n) ∷ ctx)) Binding places
        (binds_all out
        (map (λ (b : Binder). b.name.0) (binders (name_supply_of c) at params places ps))
        (range_with_len (n + 1) (length ps)) inner)) z
        (all_at at ps ((p, n) ∷ ctx) places inner (n + 1) d.1
        (λ q i j. apart q i (found ctx p n q j))
        (one_at ctx places s n p (λ i. new p here i) a (are p here)) (λ q i. are q (there i)))
      where
        apart : (q : ℕ) → In q ps → Found ctx p n q → ⊥
        apart q i (IsNew e l) = all_of (λ y. y ≡ p → ⊥) ps d.0 i (sym e)
        apart q i (IsOld m j l) = new q (there i) j
