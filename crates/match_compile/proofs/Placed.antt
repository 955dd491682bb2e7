-- The names that places have in the program that equations become: each place has a new name, or
-- the name that all
-- rows of a tree have bound to it.
use Rattle.std.proofs.Common.{◌≡◌, ℕ, zero, suc, ◌+◌, ◌-◌, ◌<◌, ◌≤◌, Bool, true, false, List, [], ◌∷◌, ◌++◌, length, refl, sym, ap, subst, ◌∙◌, arith, Option, Some, None, ◌⊎◌, inl, inr, ⊎_elim}
use Rattle.std.specs.Prelude.{◌≢◌, ◌==◌, ◌&&◌, nat_lt, slice_get, codes, if◌then◌else◌}
use Rattle.std.specs.Str.{bytes_eq}
use Rattle.std.proofs.lemmas.Bool.Decides.{nat_tests}
use Rattle.seq.specs.Lists.{AllOf, In, here, there, or_empty}
use Rattle.seq.proofs.Lists.{some_is, get_within, append_nil}
use Rattle.seq.proofs.Order.{eq_from, eq_false, eq_self, differs_from}
use Rattle.seq.proofs.Truth.{two_ways, and_left}
use Rattle.seq.proofs.Member.{none_in, in_left, in_right, in_split, cons_in}
use Rattle.core_reader.specs.declared.syntax.Binder.{Binder}
use Rattle.core_reader.specs.Tree.{Function}
use Rattle.core_reader.specs.Readable.{IsNamed, ReadableExpr}
use Rattle.arity_check.specs.declared.normal.PrimOp.{PrimOp}
use Rattle.arity_check.specs.Scope.{Scope, is_named, primitives}
use Rattle.arity_check.specs.Pieces.{within}
use Rattle.arity_check.specs.BinderLists.{Repeats, OfFunction}
use Rattle.arity_check.specs.Broken as program
use Rattle.match_compile.specs.Source.{Equation, Source}
use Rattle.match_compile.specs.Parts.{count}
use Rattle.match_compile.specs.Parts as parts
use Rattle.match_compile.specs.Rules.{Behind, text_in, Broken, DuplicateName}
use Rattle.match_compile.specs.Sound.{equations_as_functions, spread_function, spread_functions, IsSound}
use Rattle.match_compile.specs.Trees.{Row, Tree, Body, Case, NoBranch, AndBranch}
use Rattle.match_compile.specs.Renamed.{renamed_name}
use Rattle.match_compile.specs.Translated.{name_supply_of, bound_at, first_bound, is_name, all_bind, branches_bind, default_binds, stays, most_params, with_nameless, nameless, keeps, place_name, taken, binder, name_or, with_fields, binders, translated}
use Rattle.match_compile.proofs.NamedAs.{named_by, old_named, new_named, new_apart, nameless_apart, same_named, primitive_apart, translated_text, nameless_length, is_in, in_at}
use Rattle.match_compile.proofs.Grouped.{Differ, all_of, split_at, differ_at}
use Rattle.match_compile.proofs.Bodies.{name_here, name_at, name_other, is_local, local_within, bound_within, within_either, IsPlain, Becomes, Fits}
use Rattle.match_compile.proofs.RowPlaces.{NotIn, job_names, job_places, bound_names, bound_places}
use Rattle.match_compile.proofs.Sown.{Comes, Fine}

-- ---- what a row has bound

pub bound_in : (p : ℕ) (bs : List (Binder × ℕ)) (x : ℕ) → bound_at p bs ≡ Some x → (b : Binder)
    × In b (bound_names bs) × (b.name.0 ≡ x)
bound_in p [] x e = absurd cc
bound_in p (b ∷ bs) x e = go (b.1 == p) e (λ h. bound_in p bs x h)
  where
    go : (t : Bool) → (if t then Some b.0.name.0 else bound_at p bs) ≡ Some x
        → (bound_at p bs ≡ Some x → (d : Binder) × In d (bound_names bs) × (d.name.0 ≡ x))
        → (d : Binder) × In d (b.0 ∷ bound_names bs) × (d.name.0 ≡ x)
    go true e f = (b.0, here, some_is e)
    go false e f = let r = f e in (r.0, there r.1, r.2)

-- where no place stands twice it is what stands there
pub at_bound : (bs : List (Binder × ℕ)) (b : Binder × ℕ) → Differ (bound_places bs) → In b bs
    → bound_at b.1 bs ≡ Some b.0.name.0
at_bound [] b d i = none_in i
at_bound (a ∷ bs) b d here = ap (λ t. if t then Some b.0.name.0 else bound_at b.1 bs) (eq_self b.1)
at_bound (a ∷ bs) b d (there i) = ap (λ t. if t then Some a.0.name.0 else bound_at b.1 bs)
    (eq_false a.1 b.1 (λ e. apart (sym e))) ∙ at_bound bs b d.1 i
  where
    place_in : (bs : List (Binder × ℕ)) {b : Binder × ℕ} → In b bs → In b.1 (bound_places bs)
    place_in [] i = none_in i
    place_in (a ∷ bs) here = here
    place_in (a ∷ bs) (there i) = there (place_in bs i)

    apart : b.1 ≢ a.1
    apart = all_of (λ y. y ≢ a.1) (bound_places bs) d.0 (place_in bs i)

-- a name that stands at two of them
pub record Twice (x : ℕ) (bs : List Binder) : Type 0 where
  pub before : List Binder
  pub second : Binder
  pub behind : Behind before second bs
  pub first : Binder
  pub stands : In first before
  pub is_first : first.name.0 ≡ x
  pub is_second : second.name.0 ≡ x

pub twice_in : (x : ℕ) (b : Binder) (bs : List Binder) → b.name.0 ≡ x
    → ((d : Binder) × In d bs × (d.name.0 ≡ x)) → Twice x (b ∷ bs)
twice_in x b bs e r =
    let s = split_at bs r.1 in
    record {
      before = b ∷ s.0;
      second = r.0;
      behind
          = record { after = s.1.after; is = ap (λ w. b ∷ w) s.1.is };
      first = b;
      stands
          = here;
      is_first = e;
      is_second = r.2;
    }

pub twice_later : (x : ℕ) (b : Binder) (bs : List Binder) → Twice x bs → Twice x (b ∷ bs)
twice_later x b bs t = record {
  before = b ∷ t.before;
  second = t.second;
  behind
      = record { after = t.behind.after; is = ap (λ w. b ∷ w) t.behind.is };
  first = t.first;
  stands
      = there t.stands;
  is_first = t.is_first;
  is_second = t.is_second;
}

bound_twice : (p q x : ℕ) (bs : List (Binder × ℕ)) → p ≢ q → bound_at p bs ≡ Some x
    → bound_at q bs ≡ Some x → Twice x (bound_names bs)
bound_twice p q x [] n e f = absurd cc
bound_twice p q x (b ∷ bs) n e f = go (b.1 == p) (b.1 == q) refl refl e f
    (λ h k. bound_twice p q x bs n h k)
  where
    go : (s t : Bool) → (b.1 == p) ≡ s → (b.1 == q) ≡ t
        → (if s then Some b.0.name.0 else bound_at p bs) ≡ Some x
        → (if t then Some b.0.name.0 else bound_at q bs) ≡ Some x
        → (bound_at p bs ≡ Some x → bound_at q bs ≡ Some x → Twice x (bound_names bs))
        → Twice x (b.0 ∷ bound_names bs)
    go true true h k e f g = absurd (n (sym (eq_from b.1 p h) ∙ eq_from b.1 q k))
    go true false h k e f g = twice_in x b.0 (bound_names bs) (some_is e) (bound_in q bs x f)
    go false true h k e f g = twice_in x b.0 (bound_names bs) (some_is f) (bound_in p bs x e)
    go false false h k e f g = twice_later x b.0 (bound_names bs) (g e f)

pub is_name_some : (y : ℕ) (o : Option ℕ) → is_name y o ≡ true → o ≡ Some y
is_name_some y None e = absurd cc
is_name_some y (Some x) e = ap Some (eq_from x y e)

pub stays_all : (p : ℕ) (t : Tree) (x : ℕ) → stays p t ≡ Some x → all_bind p x t ≡ true
stays_all p t x e = go (bound_at p (first_bound t)) e
  where
    go : (o : Option ℕ) → elim o [ None ↦ None | Some y ↦ if all_bind p y t then Some y else None ]
        ≡ Some x → all_bind p x t ≡ true
    go None e = absurd cc
    go (Some y) e = by (all_bind p y t) refl e
      where
        by : (b : Bool) → all_bind p y t ≡ b → (if b then Some y else None) ≡ Some x
            → all_bind p x t ≡ true
        by true h e = ap (λ z. all_bind p z t) (sym (some_is e)) ∙ h
        by false h e = absurd cc

pub most_is : (es : List Equation) (e : Equation) → In e es → count e.pats ≤ most_params es
most_is [] e i = none_in i
most_is (d ∷ es) e here = omega arith
most_is (d ∷ es) e (there i) = omega (arith, most_is es e i)

-- ---- equations as functions of their own

pub record IsSpread (c : Source) (e : Equation) : Type 0 where
  pub number : ℕ
  pub function : Function
  pub is : slice_get (equations_as_functions c).functions number ≡ Some function
  pub params : function.params ≡ parts.names_of e.pats
  pub body : function.body ≡ e.body

-- what was read
pub record WasRead (c : Source) : Type 0 where
  pub names : (e : Equation) → In e c.equations → IsNamed c.names e.name
  pub patterns : (e : Equation) → In e c.equations → (b : Binder) → In b (parts.names_of e.pats)
      → IsNamed c.names b.name.0
  pub bodies : (e : Equation) → In e c.equations → ReadableExpr c.names e.body

spread_at : (before : List Equation) (new : ℕ) (es : List Equation) (e : Equation) → In e es
    → (i : ℕ) × (f : Function) × (slice_get (spread_functions before new es) i ≡ Some f)
    × (f.params ≡ parts.names_of e.pats) × (f.body ≡ e.body)
spread_at before new [] e i = none_in i
spread_at before new (d ∷ es) e here = (0, spread_function before new e, refl, refl, refl)
spread_at before new (d ∷ es) e (there i) = let r = spread_at (before ++ d ∷ []) (suc new) es e i
    in (suc r.0, r.1, r.2, r.3, r.4)

module _ (c : Source) (unbroken : (k at : ℕ) → Broken c k at → ⊥) (read : WasRead c) where
  -- no name but `_` stands twice in patterns
  pub never_twice : (e : Equation) → In e c.equations → (x : ℕ) → Twice x (parts.names_of e.pats)
      → is_named (translated c) (codes "_") x ≡ false → ⊥
  never_twice e i x t n =
      let m : In t.second (parts.names_of e.pats) = subst (In t.second) (sym t.behind.is)
      (in_right t.before (t.second ∷ t.behind.after) here) in
      let r = read.patterns e i t.second m in
      let text : text_in c.names t.second.name.0 ≡ r.0 = ap or_empty r.1 in
      let named : is_named (translated c) (codes "_") x ≡ bytes_eq r.0 (codes "_")
      = ap (is_named (translated c) (codes "_")) (sym t.is_second) ∙ named_by c (translated c)
      (codes "_") r.0 t.second.name.0 (translated_text c t.second.name.0 r.1) in
      unbroken 13 t.second.at
      (DuplicateName i t.behind t.stands (t.is_first ∙ sym t.is_second)
      (λ q. no_more (sym n ∙ named ∙ ap (λ w. bytes_eq w (codes "_")) (sym text ∙ q))))
    where
      no_more : false ≡ true → ⊥
      no_more e = absurd cc

  -- ---- a row of a tree

  -- a row of the tree, which has bound what all of them have
  record FirstRow (t : Tree) : Type 0 where
    row : Row
    equation : Equation
    is_in : In equation c.equations
    names : bound_names row.bound ≡ parts.names_of equation.pats
    binds : (p x : ℕ) → all_bind p x t ≡ true → bound_at p row.bound ≡ Some x

  first_row : (n : ℕ) (ks : List ℕ) (t : Tree) → Fine c n ks t → FirstRow t
  first_row n ks (Body r) f = record {
    row = r;
    equation = f.0.equation;
    is_in = f.0.is_in;
    names = sym (append_nil (bound_names r.bound)) ∙ ap (λ js. bound_names r.bound ++ job_names js)
        (sym f.1) ∙ f.0.names;
    binds = λ p x e. is_name_some x (bound_at p r.bound) e;
  }
  first_row n ks (Case p NoBranch o) f = absurd (no_branch (f.1 0))
    where
      no_branch : true ≡ false → ⊥
      no_branch e = cc
  first_row n ks (Case p (AndBranch h ps t bs) o) f =
      let r = first_row n (ps ++ ks) t f.3.4 in
      record {
        row = r.row;
        equation = r.equation;
        is_in = r.is_in;
        names = r.names;
        binds = λ q x e. r.binds q x
            (and_left (all_bind q x t) (branches_bind q x bs)
            (and_left (all_bind q x t && branches_bind q x bs) (default_binds q x o) e));
      }

  -- a name that all rows have bound to a place is one of patterns
  pub bound_name : (n : ℕ) (ks : List ℕ) (t : Tree) → Fine c n ks t → (p x : ℕ)
      → all_bind p x t ≡ true → (e : Equation) × In e c.equations
      × ((b : Binder) × In b (parts.names_of e.pats) × (b.name.0 ≡ x))
  bound_name n ks t f p x e =
      let r = first_row n ks t f in
      let b = bound_in p r.row.bound x (r.binds p x e) in
      (r.equation, r.is_in, (b.0, subst (In b.0) r.names b.1, b.2))

  old_below : (x : ℕ) → IsNamed c.names x → x < length (with_nameless c.names)
  old_below x r = let lt : x < length c.names = get_within c.names x r.0 r.1 in let le
      : length c.names ≤ length (with_nameless c.names) = nameless_length c.names
      in omega (arith, lt, le)

  -- ---- names of places

  place_apart : (params : ℕ) → params ≤ most_params c.equations → (p q : ℕ)
      → place_name (name_supply_of c) params p ≡ place_name (name_supply_of c) params q → p ≡ q
  place_apart params le p q e = go (nat_lt p params) (nat_lt q params) refl refl e
    where
      go : (s t : Bool) → nat_lt p params ≡ s → nat_lt q params ≡ t
          → length (with_nameless c.names) + length c.equations +
          (if s then p else most_params c.equations + (p - params)) ≡ length
          (with_nameless c.names) + length c.equations +
          (if t then q else most_params c.equations + (q - params)) → p ≡ q
      go true true h k e = omega (arith, e)
      go true false h k e = let lt : p < params = grind (arith, nat_tests)
          in absurd (omega (arith, e, lt, le))
      go false true h k e = let lt : q < params = grind (arith, nat_tests)
          in absurd (omega (arith, e, lt, le))
      go false false h k e = let l : params ≤ p = grind (arith, nat_tests) in let m : params ≤ q
          = grind (arith, nat_tests) in omega (arith, e, l, m)

  pub place_new : (params p : ℕ) → length (with_nameless c.names) ≤ place_name (name_supply_of c)
      params p
  place_new params p = omega arith

  module _ (params : ℕ) (within_most : params ≤ most_params c.equations) where
    -- a new name, or one that all rows bind
    abbrev pub IsPlace : (ℕ → ℕ → Bool) → ℕ → ℕ → Type 0
    IsPlace binds p y = (y ≡ place_name (name_supply_of c) params p) ⊎ (binds p y ≡ true)

    stays_is : (at p : ℕ) (t : Tree) → IsPlace (λ p x. all_bind p x t) p
        (name_or (name_supply_of c) at params (stays p t) p)
    stays_is at p t = go (bound_at p (first_bound t))
      where
        go : (o : Option ℕ) → IsPlace (λ p x. all_bind p x t) p
            (name_or (name_supply_of c) at params
            (elim o [ None ↦ None | Some x ↦ if all_bind p x t then Some x else None ]) p)
        go None = inl refl
        go (Some x) = by (all_bind p x t) refl
          where
            by : (b : Bool) → all_bind p x t ≡ b → IsPlace (λ p x. all_bind p x t) p
                (name_or (name_supply_of c) at params (if b then Some x else None) p)
            by true e = inr e
            by false e = inl refl

    -- two places have one name where that is `_`
    pub place_once : (n : ℕ) (ks : List ℕ) (t : Tree) → Fine c n ks t → (p q y : ℕ) → p ≢ q
        → IsPlace (λ p x. all_bind p x t) p y → IsPlace (λ p x. all_bind p x t) q y
        → is_named (translated c) (codes "_") y ≡ false → ⊥
    place_once n ks t f p q y d (inl a) (inl b) e = d
        (place_apart params within_most p q (sym a ∙ b))
    place_once n ks t f p q y d (inl a) (inr b) e =
        let w = bound_name n ks t f q y b in
        let lt = old_below w.2.0.name.0 (read.patterns w.0 w.1 w.2.0 w.2.1) in
        omega (arith, lt, a, w.2.2, place_new params p)
    place_once n ks t f p q y d (inr a) (inl b) e =
        let w = bound_name n ks t f p y a in
        let lt = old_below w.2.0.name.0 (read.patterns w.0 w.1 w.2.0 w.2.1) in
        omega (arith, lt, b, w.2.2, place_new params q)
    place_once n ks t f p q y d (inr a) (inr b) e =
        let r = first_row n ks t f in
        never_twice r.equation r.is_in y
        (subst (Twice y) r.names
        (bound_twice p q y r.row.bound d (r.binds p y a) (r.binds q y b))) e

    -- ---- scopes of places

    pub fields_old : (at : ℕ) (t : Tree) (ps : List ℕ) (places : Scope) (p : ℕ) → NotIn p ps
        → renamed_name (with_fields (name_supply_of c) at params t ps places) p ≡ renamed_name
        places p
    fields_old at t [] places p n = refl
    fields_old at t (q ∷ ps) places p n =
        fields_old at t ps ((q, name_or (name_supply_of c) at params (stays q t) q) ∷ places) p
        (λ i. n (there i))
        ∙ name_other q (name_or (name_supply_of c) at params (stays q t) q) places p
        (eq_false q p (λ e. n (subst (λ z. In z (q ∷ ps)) e here)))

    fields_new : (at : ℕ) (t : Tree) (ps : List ℕ) (places : Scope) (p : ℕ) → Differ ps → In p ps
        → renamed_name (with_fields (name_supply_of c) at params t ps places) p ≡ name_or
        (name_supply_of c) at params (stays p t) p
    fields_new at t [] places p d i = none_in i
    fields_new at t (q ∷ ps) places p d here =
        fields_old at t ps ((p, name_or (name_supply_of c) at params (stays p t) p) ∷ places) p
        (λ i. all_of (λ y. y ≢ p) ps d.0 i refl)
        ∙ name_here p (name_or (name_supply_of c) at params (stays p t) p) places
    fields_new at t (q ∷ ps) places p d (there i) = fields_new at t ps
        ((q, name_or (name_supply_of c) at params (stays q t) q) ∷ places) p d.1 i

    -- a place's name is in scope, or is `_`
    pub record Placed (binds : ℕ → ℕ → Bool) (inner : Scope) (p y : ℕ) : Type 0 where
      pub place : IsPlace binds p y
      pub local : is_named (translated c) (codes "_") y ≡ false → is_local inner y ≡ true

    abbrev pub Known : List ℕ → (ℕ → ℕ → Bool) → Scope → Scope → Type 0
    Known ks binds places inner = (p : ℕ) → In p ks → Placed binds inner p (renamed_name places p)

    pub placed_less : (f g : ℕ → ℕ → Bool) (inner : Scope) (p y : ℕ) → (f p y ≡ true → g p y ≡ true)
        → Placed f inner p y → Placed g inner p y
    placed_less f g inner p y h k = record
        { place = ⊎_elim (λ l. inl l) (λ r. inr (h r)) k.place; local = k.local }

    pub placed_within : (f : ℕ → ℕ → Bool) (bs : List Binder) (inner : Scope) (p y : ℕ)
        → Placed f inner p y → Placed f (within (translated c) bs inner) p y
    placed_within f bs inner p y k = record
        { place = k.place; local = λ n. local_within (translated c) bs inner y (k.local n) }

    pub binders_in : (at : ℕ) (s : Scope) (ps : List ℕ) (p : ℕ) → In p ps
        → In (binder (name_supply_of c) at params (renamed_name s p))
        (binders (name_supply_of c) at params s ps)
    binders_in at s [] p i = none_in i
    binders_in at s (q ∷ ps) p here = here
    binders_in at s (q ∷ ps) p (there i) = there (binders_in at s ps p i)

    -- the names of places that are bound here
    pub placed_bound : (f : ℕ → ℕ → Bool) (at : ℕ) (s : Scope) (ps : List ℕ) (inner : Scope) (p : ℕ)
        → In p ps → IsPlace f p (renamed_name s p) → Placed f
        (within (translated c) (binders (name_supply_of c) at params s ps) inner) p
        (renamed_name s p)
    placed_bound f at s ps inner p i h = record {
      place = h;
      local = λ n. bound_within (translated c)
          (binders (name_supply_of c) at params s ps) inner
          (binder (name_supply_of c) at params (renamed_name s p)) (binders_in at s ps p i) n;
    }

    pub field_place : (at : ℕ) (t : Tree) (ps : List ℕ) (places : Scope) → Differ ps → (p : ℕ)
        → In p ps → IsPlace (λ p x. all_bind p x t) p
        (renamed_name (with_fields (name_supply_of c) at params t ps places) p)
    field_place at t ps places d p i = subst (IsPlace (λ p x. all_bind p x t) p)
        (sym (fields_new at t ps places p d i)) (stays_is at p t)

    pub known_branch : (at : ℕ) (t : Tree) (ps ks : List ℕ) (places inner : Scope) → Differ ps
        → AllOf (λ p. NotIn p ks) ps → Known ks (λ p x. all_bind p x t) places inner
        → Known (ps ++ ks) (λ p x. all_bind p x t)
        (with_fields (name_supply_of c) at params t ps places)
        (within (translated c)
        (binders (name_supply_of c) at params
        (with_fields (name_supply_of c) at params t ps places) ps) inner)
    known_branch at t ps ks places inner d n k p i = elim (in_split ps ks i) [
      | inl l ↦ placed_bound (λ p x. all_bind p x t) at
          (with_fields (name_supply_of c) at params t ps places) ps inner p l
          (field_place at t ps places d p l)
      | inr r ↦
          let old = fields_old at t ps places p (λ l. all_of (λ q. NotIn q ks) ps n l r) in
          subst (Placed (λ p x. all_bind p x t)
          (within (translated c)
          (binders (name_supply_of c) at params
          (with_fields (name_supply_of c) at params t ps places) ps) inner) p) (sym old)
          (placed_within (λ p x. all_bind p x t)
          (binders (name_supply_of c) at params
          (with_fields (name_supply_of c) at params t ps places) ps) inner p
          (renamed_name places p) (k p r))
    ]

    -- ---- what the names in a row's patterns have become

    pub taken_kept : (places : Scope) (bs : List (Binder × ℕ)) (x : ℕ)
        → keeps (name_supply_of c) x ≡ true → renamed_name (taken (name_supply_of c) places bs) x ≡
        x
    taken_kept places [] x k = refl
    taken_kept places (b ∷ bs) x k = go (keeps (name_supply_of c) b.0.name.0) refl
        (taken_kept places bs x k)
      where
        go : (t : Bool) → keeps (name_supply_of c) b.0.name.0 ≡ t
            → renamed_name (taken (name_supply_of c) places bs) x ≡ x
            → renamed_name
            (if t then taken (name_supply_of c) places bs
            else (b.0.name.0, renamed_name places b.1) ∷ taken (name_supply_of c) places bs) x ≡ x
        go true h f = f
        go false h f = name_other b.0.name.0 (renamed_name places b.1)
            (taken (name_supply_of c) places bs) x
            (eq_false b.0.name.0 x (λ e. no_both (sym h ∙ ap (keeps (name_supply_of c)) e ∙ k))) ∙ f
          where
            no_both : false ≡ true → ⊥
            no_both e = cc

    -- a name that is not kept is that of a place, or none of them
    abbrev pub Became : (places : Scope) (bs : List (Binder × ℕ)) (x y : ℕ) → Type 0
    Became places bs x y =
        ((b : Binder × ℕ) × In b bs × (b.0.name.0 ≡ x) × (y ≡ renamed_name places b.1))
        ⊎ ((y ≡ x) × ((b : Binder) → In b (bound_names bs) → b.name.0 ≢ x))

    pub taken_name : (places : Scope) (bs : List (Binder × ℕ)) (x : ℕ)
        → keeps (name_supply_of c) x ≡ false → Became places bs x
        (renamed_name (taken (name_supply_of c) places bs) x)
    taken_name places [] x k = inr (refl, λ b i e. none_in i)
    taken_name places (b ∷ bs) x k = go (keeps (name_supply_of c) b.0.name.0)
        (two_ways (b.0.name.0 == x)) refl (taken_name places bs x k)
      where
        no_both : true ≡ false → ⊥
        no_both e = cc

        later : (y : ℕ) → b.0.name.0 ≢ x → Became places bs x y → Became places (b ∷ bs) x y
        later y n (inl l) = inl (l.0, there l.1, l.2, l.3)
        later y n (inr r) = inr (
          r.0,
          λ d i. ⊎_elim (λ q e. n (ap (λ (w : Binder). w.name.0) (sym q) ∙ e))
              (λ j. r.1 d j) (cons_in b.0 (bound_names bs) i),
        )

        go : (t : Bool) → ((b.0.name.0 == x) ≡ true) ⊎ ((b.0.name.0 == x) ≡ false)
            → keeps (name_supply_of c) b.0.name.0 ≡ t
            → Became places bs x (renamed_name (taken (name_supply_of c) places bs) x)
            → Became places (b ∷ bs) x
            (renamed_name
            (if t then taken (name_supply_of c) places bs
            else (b.0.name.0, renamed_name places b.1) ∷ taken (name_supply_of c) places bs) x)
        go true (inl e) h f = absurd
            (no_both (sym h ∙ ap (keeps (name_supply_of c)) (eq_from b.0.name.0 x e) ∙ k))
        go true (inr e) h f = later (renamed_name (taken (name_supply_of c) places bs) x)
            (differs_from b.0.name.0 x e) f
        go false (inl e) h f = inl (
          b,
          here,
          eq_from b.0.name.0 x e,
          name_at b.0.name.0 (renamed_name places b.1)
              (taken (name_supply_of c) places bs) x e,
        )
        go false (inr e) h f = subst (Became places (b ∷ bs) x)
            (sym (name_other b.0.name.0 (renamed_name places b.1)
            (taken (name_supply_of c) places bs) x e))
            (later (renamed_name (taken (name_supply_of c) places bs) x)
            (differs_from b.0.name.0 x e) f)

    pub fits_row : (ks : List ℕ) (r : Row) (w : Comes c ks r) (places inner : Scope) → r.jobs ≡ []
        → Known ks (λ p x. is_name x (bound_at p r.bound)) places inner
        → Fits c (taken (name_supply_of c) places r.bound)
        (within (equations_as_functions c) (parts.names_of w.equation.pats) []) inner
    fits_row ks r w places inner done k = record {
      kept = λ x h. taken_kept places r.bound x h;
      other = λ x plain. becomes x plain (taken_name places r.bound x plain.free);
    }
      where
        names : bound_names r.bound ≡ parts.names_of w.equation.pats
        names = sym (append_nil (bound_names r.bound)) ∙ ap
            (λ js. bound_names r.bound ++ job_names js) (sym done) ∙ w.names

        once : Differ (bound_places r.bound)
        once = subst Differ
            (ap (λ js. bound_places r.bound ++ job_places js) done ∙ append_nil
            (bound_places r.bound)) w.once

        place_in : (bs : List (Binder × ℕ)) {b : Binder × ℕ} → In b bs → In b.1 (bound_places bs)
        place_in [] i = none_in i
        place_in (a ∷ bs) here = here
        place_in (a ∷ bs) (there i) = there (place_in bs i)

        known : {b : Binder × ℕ} → In b r.bound → In b.1 ks
        known {b = b} i = all_of (λ q. In q ks) (bound_places r.bound ++ job_places r.jobs) w.known
            (in_left (bound_places r.bound) (job_places r.jobs) (place_in r.bound i))

        outer : Scope
        outer = within (equations_as_functions c) (parts.names_of w.equation.pats) []

        becomes : (x : ℕ) → IsPlain c x → Became places r.bound x
            (renamed_name (taken (name_supply_of c) places r.bound) x)
            → Becomes c x (taken (name_supply_of c) places r.bound) outer inner
        becomes x plain (inr n) = record {
          either = inl n.0;
          local = λ l. absurd
              (⊎_elim (λ
              (f : (b : Binder) × In b (parts.names_of w.equation.pats) × (b.name.0 ≡ x)). n.1 f.0
              (subst (In f.0) (sym names) f.1) f.2) (λ e. no_both e)
              (within_either (equations_as_functions c) (parts.names_of w.equation.pats) [] x l));
        }
          where
            no_both : false ≡ true → ⊥
            no_both e = cc
        becomes x plain (inl f) =
            let p = k f.0.1 (known f.1) in
            let named : is_named (translated c) (codes "_") x ≡ false
            = old_named c (codes "_") plain.text x plain.is ∙ plain.named in
            at_place (renamed_name (taken (name_supply_of c) places r.bound) x) f.3 p.place p.local
            named
          where
            at_place : (y : ℕ) → renamed_name (taken (name_supply_of c) places r.bound) x ≡
                renamed_name places f.0.1 → IsPlace (λ p x. is_name x (bound_at p r.bound)) f.0.1
                (renamed_name places f.0.1) →
                (is_named (translated c) (codes "_") (renamed_name places f.0.1) ≡ false
                → is_local inner (renamed_name places f.0.1) ≡ true)
                → is_named (translated c) (codes "_") x ≡ false
                → Becomes c x (taken (name_supply_of c) places r.bound) outer inner
            at_place y q (inl a) g n =
                let le : length (with_nameless c.names) ≤ renamed_name places f.0.1
                = subst (λ z. length (with_nameless c.names) ≤ z) (sym a)
                (place_new params f.0.1) in
                let l = g (new_named c (renamed_name places f.0.1) le) in
                record {
                  either = inr (
                    subst (λ z. length (with_nameless c.names) ≤ z) (sym q) le,
                    ap (is_local inner) q ∙ l,
                  );
                  local = λ h. ap (is_local inner) q ∙ l;
                }
            at_place y q (inr a) g n =
                let same : renamed_name places f.0.1 ≡ x
                = some_is
                (sym (is_name_some (renamed_name places f.0.1) (bound_at f.0.1 r.bound) a) ∙
                at_bound r.bound f.0 once f.1) ∙ f.2 in
                record {
                  either = inl (q ∙ same);
                  local = λ h. ap (is_local inner) q ∙ g
                      (ap (is_named (translated c) (codes "_")) same ∙ n);
                }

-- ---- where each equation is sound as a function of its own

module _ (c : Source) (unbroken : (k at : ℕ) → Broken c k at → ⊥) (sound : IsSound c)
    (read : WasRead c) where
  pub spread_is : (e : Equation) → In e c.equations → IsSpread c e
  spread_is e i = let r = spread_at [] (length c.names) c.equations e i
      in record { number = r.0; function = r.1; is = r.2; params = r.3; body = r.4 }

  -- a name of a pattern is that of no primitive
  pattern_apart : (e : Equation) → In e c.equations → (b : Binder) → In b (parts.names_of e.pats)
      → (n : ℕ) (q : List ℕ × PrimOp) → slice_get primitives n ≡ Some q
      → is_named (equations_as_functions c) q.0 b.name.0 ≡ true → ⊥
  pattern_apart e i b m n q s h =
      let f = spread_is e i in
      let at = in_at (parts.names_of e.pats) m in
      sound.unbroken 22 b.at refl
      (program.ReservedBinder at.0 n (OfFunction f.number f.is)
      (subst (λ xs. slice_get xs at.0 ≡ Some b) (sym f.params) at.1) s h)

  module _ (params : ℕ) (within_most : params ≤ most_params c.equations) where
    pub place_plain : (n : ℕ) (ks : List ℕ) (t : Tree) → Fine c n ks t
        → (p y m : ℕ) (q : List ℕ × PrimOp) → IsPlace c unbroken read params within_most
        (λ p x. all_bind p x t) p y → slice_get primitives m ≡ Some q
        → is_named (translated c) q.0 y ≡ true → ⊥
    place_plain n ks t f p y m q (inl a) s h = no_both
        (sym (new_apart c q.0 (primitive_apart m s) y
        (subst (λ z. length (with_nameless c.names) ≤ z) (sym a)
        (place_new c unbroken read params p))) ∙ h)
      where
        no_both : false ≡ true → ⊥
        no_both e = cc
    place_plain n ks t f p y m q (inr a) s h =
        let w = bound_name c unbroken read n ks t f p y a in
        pattern_apart w.0 w.1 w.2.0 w.2.1 m q s
        (ap (is_named (equations_as_functions c) q.0) w.2.2 ∙ sym
        (same_named c q.0 (primitive_apart m s) y) ∙ h)

    -- ---- lists of binders at places

    -- nothing but `_` stands twice, and no primitive
    pub record IsGood (xs : List Binder) : Type 0 where
      pub once : (at : ℕ) → Repeats (translated c) xs at → ⊥
      pub plain : (i n : ℕ) (x : Binder) (q : List ℕ × PrimOp) → slice_get xs i ≡ Some x
          → slice_get primitives n ≡ Some q → is_named (translated c) q.0 x.name.0 ≡ true → ⊥

    binder_at : (at : ℕ) (s : Scope) (ps : List ℕ) (i : ℕ) (x : Binder)
        → slice_get (binders (name_supply_of c) at params s ps) i ≡ Some x → (p : ℕ)
        × (slice_get ps i ≡ Some p) × (renamed_name s p ≡ x.name.0)
    binder_at at s [] i x e = absurd cc
    binder_at at s (p ∷ ps) zero x e = (p, refl, ap (λ (b : Binder). b.name.0) (some_is e))
    binder_at at s (p ∷ ps) (suc i) x e = binder_at at s ps i x e

    differ_items : (ps : List ℕ) (i j p q : ℕ) → Differ ps → i < j → slice_get ps i ≡ Some p
        → slice_get ps j ≡ Some q → p ≢ q
    differ_items ps i j p q d lt e f h = differ_at ps i j p q d lt e f (sym h)

    pub good_binders : (at n : ℕ) (ks : List ℕ) (t : Tree) (s : Scope) (ps : List ℕ) → Fine c n ks t
        → Differ ps →
        ((p : ℕ) → In p ps → IsPlace c unbroken read params within_most (λ p x. all_bind p x t) p
        (renamed_name s p)) → IsGood (binders (name_supply_of c) at params s ps)
    good_binders at n ks t s ps f d are = record {
      once = λ place r.
          let a = binder_at at s ps r.i r.first r.is_first in
          let b = binder_at at s ps r.j r.second r.is_second in
          place_once c unbroken read params within_most n ks t f a.0 b.0 (renamed_name s b.0)
          (differ_items ps r.i r.j a.0 b.0 d r.before a.1 b.1)
          (subst (IsPlace c unbroken read params within_most (λ p x. all_bind p x t) a.0)
          (a.2 ∙ sym r.same ∙ sym b.2) (are a.0 (is_in ps r.i a.1)))
          (are b.0 (is_in ps r.j b.1))
          (ap (is_named (translated c) (codes "_")) b.2 ∙ r.named);
      plain = λ i m x q e g h.
          let a = binder_at at s ps i x e in
          place_plain n ks t f a.0 (renamed_name s a.0) m q (are a.0 (is_in ps i a.1)) g
          (ap (is_named (translated c) q.0) a.2 ∙ h);
    }

    -- the list of `_` alone
    pub good_nameless : (at : ℕ) → IsGood
        (binder (name_supply_of c) at params (nameless (name_supply_of c)) ∷ [])
    good_nameless at = record {
      once = λ place r. no_second r.i r.j r.second r.before r.is_second;
      plain = λ i m x q e g h. only q m g h (one i x e);
    }
      where
        no_second : (i j : ℕ) (x : Binder) → i < j → slice_get
            (binder (name_supply_of c) at params (nameless (name_supply_of c)) ∷ []) j ≡ Some x → ⊥
        no_second i zero x lt e = omega (arith, lt)
        no_second i (suc j) x lt e = absurd cc

        one : (i : ℕ) (x : Binder) → slice_get
            (binder (name_supply_of c) at params (nameless (name_supply_of c)) ∷ []) i ≡ Some x
            → x.name.0 ≡ nameless (name_supply_of c)
        one zero x e = ap (λ (b : Binder). b.name.0) (sym (some_is e))
        one (suc i) x e = absurd cc

        only : (q : List ℕ × PrimOp) (m : ℕ) → slice_get primitives m ≡ Some q → {x : ℕ}
            → is_named (translated c) q.0 x ≡ true → x ≡ nameless (name_supply_of c) → ⊥
        only q m g h e = no_both
            (sym (nameless_apart c q.0 (primitive_apart m g)) ∙ ap (is_named (translated c) q.0)
            (sym e) ∙ h)
          where
            no_both : false ≡ true → ⊥
            no_both e = cc

    pub good_none : IsGood []
    good_none = record
        { once = λ place r. none r.i r.first r.is_first; plain = λ i m x q e g h. none i x e }
      where
        none : (i : ℕ) (x : Binder) → slice_get [] i ≡ Some x → ⊥
        none i x e = absurd cc
