-- The body of a leaf, where names have become those of places, is alike to the body under the names
-- of its equation.
use Rattle.std.proofs.Common.{◌≡◌, ℕ, zero, suc, ◌+◌, ◌<◌, ◌≤◌, Bool, true, false, List, [], ◌∷◌, ◌++◌, map, length, refl, sym, ap, subst, ◌∙◌, arith, Option, Some, ◌⊎◌, inl, inr}
use Rattle.std.specs.Prelude.{◌==◌, ◌||◌, slice_get, codes, if◌then◌else◌}
use Rattle.std.specs.List.{range_with_len}
use Rattle.std.specs.Str.{bytes_eq}
use Rattle.seq.specs.Lists.{AllOf, In, here, there, or_empty}
use Rattle.seq.proofs.Lists.{some_is, some_at, get_within, map_get, all_get, append_nil}
use Rattle.seq.proofs.Member.{none_in, in_left}
use Rattle.seq.proofs.Order.{eq_self, eq_false, compared}
use Rattle.seq.proofs.Truth.{two_ways, or_cases, or_left, or_right}
use Rattle.core_reader.specs.declared.syntax.Binder.{Binder}
use Rattle.core_reader.specs.Tree.{Expr, Function, Program}
use Rattle.arity_check.specs.declared.normal.PrimOp.{PrimOp}
use Rattle.arity_check.specs.declared.meaning.Meaning.{Meaning}
use Rattle.arity_check.specs.declared.meaning.Meaning.TheVariants as stands
use Rattle.arity_check.specs.Scope.{Scope, is_named, primitives, primitive_from, unless_primitive, means, found_in, function_from, binds, binds_all}
use Rattle.arity_check.specs.Program as normal
use Rattle.arity_check.specs.Normal.{IsNormal}
use Rattle.arity_check.proofs.Unique.{normal_one}
use Rattle.match_compile.specs.Source.{Source}
use Rattle.match_compile.specs.Parts.{names_of}
use Rattle.match_compile.specs.Rules.{Broken}
use Rattle.match_compile.specs.Trees.{Row}
use Rattle.match_compile.specs.Renamed.{renamed_name, renamed_expr}
use Rattle.match_compile.specs.Translated.{name_supply_of, bound_at, is_name, is_nameless, is_primitive, is_kept, keeps, most_params, with_nameless, taken, translated}
use Rattle.match_compile.specs.Form.{program_of_heads}
use Rattle.match_compile.specs.Alike.{LocalPairs, LocalsCorrespond, TermAlike}
use Rattle.match_compile.specs.Jobs.{MatchAttempt}
use Rattle.match_compile.proofs.NamedAs.{named_by, new_named, new_primitive, nameless_length, in_at, is_in}
use Rattle.match_compile.proofs.Grouped.{Differ}
use Rattle.match_compile.proofs.RowPlaces.{job_names, bound_names, bound_places, job_places}
use Rattle.match_compile.proofs.Sown.{Comes}
use Rattle.match_compile.proofs.Placed.{WasRead, IsPlace, Twice, twice_in, twice_later, never_twice, bound_in, at_bound, is_name_some, place_new, taken_kept, taken_name}
use Rattle.match_compile.proofs.AlikeFlats.{SameMeaning, SameLocal, SameFunction, SamePrimitive, SameNothing, Sees}
use Rattle.match_compile.proofs.AlikeScopes.{Below}
use Rattle.match_compile.proofs.AlikeTerms.{FitsExpr, TermFits, normal_alike}
use Rattle.match_compile.proofs.Grounds as grounds
use Rattle.match_compile.proofs.Coded.{Places, local_of, InScope, Stands, BodyAlike}
use Rattle.match_compile.proofs.Scoped.{At}

-- ---- locals with those of the other term

abbrev pub numbered : ℕ → List ℕ → LocalPairs
numbered i [] = []
numbered i (y ∷ ys) = (i, y) ∷ numbered (suc i) ys

linked_get : (ys : List ℕ) (i x y : ℕ) → LocalsCorrespond (numbered i ys) x y → (k : ℕ)
    × (x ≡ i + k) × (slice_get ys k ≡ Some y)
linked_get [] i x y h = absurd h
linked_get (z ∷ ys) i x y (inl h) = let e = h.0 in (0, omega (arith, e), ap Some (sym h.1))
linked_get (z ∷ ys) i x y (inr h) = let r = linked_get ys (suc i) x y h.1.1 in let e = r.1
    in (suc r.0, omega (arith, e), r.2)

get_linked : (ys : List ℕ) (i k y : ℕ) → Differ ys → slice_get ys k ≡ Some y
    → LocalsCorrespond (numbered i ys) (i + k) y
get_linked [] i k y d e = absurd cc
get_linked (z ∷ ys) i zero y d e = inl (omega arith, sym (some_is e))
get_linked (z ∷ ys) i (suc k) y d e =
    let next : suc i + k ≡ i + suc k = omega arith in
    inr (
      (λ f. omega (arith, f)),
      (
        all_get (λ w. w ≡ z → ⊥) ys k y d.0 e,
        subst
            (λ w. LocalsCorrespond (numbered (suc i) ys) w y) next
            (get_linked ys (suc i) k y d.1 e),
      ),
    )

map_at : {X Y : Type 0} (f : X → Y) (xs : List X) (k : ℕ) (y : Y) → slice_get (map f xs) k ≡ Some y
    → (x : X) × (slice_get xs k ≡ Some x) × (f x ≡ y)
map_at f [] k y e = absurd cc
map_at f (x ∷ xs) zero y e = (x, refl, some_is e)
map_at f (x ∷ xs) (suc k) y e = map_at f xs k y e

-- ---- names that binders bind

module _ (p : Program) where
  other_found : (b y : ℕ) (s : Scope) (x : ℕ) → (b ≡ x → ⊥)
      → found_in p (binds p b y s) x ≡ found_in p s x
  other_found b y s x n = by (is_named p (codes "_") b)
    where
      by : (t : Bool) → found_in p (if t then s else (b, y) ∷ s) x ≡ found_in p s x
      by true = refl
      by false = ap (λ t. if t then stands.Local y else found_in p s x) (eq_false b x n)

  first_found : (b y : ℕ) (s : Scope) → is_named p (codes "_") b ≡ false
      → found_in p (binds p b y s) b ≡ stands.Local y
  first_found b y s e = ap (λ t. found_in p (if t then s else (b, y) ∷ s) b) e ∙ ap
      (λ t. if t then stands.Local y else found_in p s b) (eq_self b)

  none_found : (xs : List ℕ) (m : ℕ) (s : Scope) (x : ℕ) → (In x xs → ⊥)
      → found_in p (binds_all p xs (range_with_len m (length xs)) s) x ≡ found_in p s x
  none_found [] m s x n = refl
  none_found (b ∷ xs) m s x n = none_found xs (m + 1) (binds p b m s) x (λ i. n (there i)) ∙
      other_found b m s x (λ e. n (subst (λ z. In z (b ∷ xs)) e here))

  one_found : (xs : List ℕ) (m : ℕ) (s : Scope) (k x : ℕ) → slice_get xs k ≡ Some x
      → ((j : ℕ) → slice_get xs j ≡ Some x → j ≡ k) → is_named p (codes "_") x ≡ false
      → found_in p (binds_all p xs (range_with_len m (length xs)) s) x ≡ stands.Local (m + k)
  one_found [] m s k x e o n = absurd cc
  one_found (b ∷ xs) m s zero x e o n =
      let same : b ≡ x = some_is e in
      let z : m ≡ m + 0 = omega arith in
      none_found xs (m + 1) (binds p b m s) x
      (λ i. let j = in_at xs i in let l = o (suc j.0) j.1 in omega (arith, l))
      ∙ subst (λ w. found_in p (binds p b m s) w ≡ stands.Local m) same
      (first_found b m s (ap (is_named p (codes "_")) same ∙ n)) ∙ ap stands.Local z
  one_found (b ∷ xs) m s (suc k) x e o n =
      let next : m + 1 + k ≡ m + suc k = omega arith in
      one_found xs (m + 1) (binds p b m s) k x e (λ j f. let l = o (suc j) f in omega (arith, l)) n
      ∙ ap stands.Local next

  -- what a function's name stands for
  data FunctionOr : Meaning → Type 0 where
    AFunction : {g k : ℕ} → FunctionOr (stands.Function g k)
    Nothing : FunctionOr stands.Unbound

  function_or : (gs : List Function) (f x : ℕ) → FunctionOr (function_from p gs f x)
  function_or [] f x = Nothing
  function_or (g ∷ gs) f x = by (g.name == x) (function_or gs (f + 1) x)
    where
      by : (b : Bool) → FunctionOr (function_from p gs (f + 1) x)
          → FunctionOr
          (if b then stands.Function f (length g.params) else function_from p gs (f + 1) x)
      by true h = AFunction
      by false h = h

  -- a primitive's name is kept, and a name that is kept is that of a primitive, or `_`
  primitive_kept : (qs : List (List ℕ × PrimOp)) (w : List ℕ) (x : ℕ)
      → ((v : List ℕ) → is_named p v x ≡ bytes_eq w v) → (op : PrimOp)
      → primitive_from p qs x ≡ stands.Primitive op → is_primitive qs w ≡ true
  primitive_kept [] w x n op h = absurd cc
  primitive_kept (q ∷ qs) w x n op h = go (is_named p q.0 x) (bytes_eq w q.0) (n q.0) h
      (λ i. primitive_kept qs w x n op i)
    where
      go : (t t' : Bool) → t ≡ t' → (if t then stands.Primitive q.1 else primitive_from p qs x) ≡
          stands.Primitive op →
          (primitive_from p qs x ≡ stands.Primitive op → is_primitive qs w ≡ true)
          → (t' || is_primitive qs w) ≡ true
      go true true e h f = refl
      go true false e h f = absurd cc
      go false true e h f = absurd cc
      go false false e h f = f h

  primitive_found : (qs : List (List ℕ × PrimOp)) (w : List ℕ) (x : ℕ)
      → ((v : List ℕ) → is_named p v x ≡ bytes_eq w v) → is_primitive qs w ≡ true → (op : PrimOp)
      × (primitive_from p qs x ≡ stands.Primitive op)
  primitive_found [] w x n h = absurd cc
  primitive_found (q ∷ qs) w x n h = go (is_named p q.0 x) (bytes_eq w q.0) (n q.0) h
      (λ i. primitive_found qs w x n i)
    where
      go : (t t' : Bool) → t ≡ t' → (t' || is_primitive qs w) ≡ true
          → (is_primitive qs w ≡ true → (op : PrimOp)
          × (primitive_from p qs x ≡ stands.Primitive op)) → (op : PrimOp)
          × ((if t then stands.Primitive q.1 else primitive_from p qs x) ≡ stands.Primitive op)
      go true true e h f = (q.1, refl)
      go true false e h f = absurd cc
      go false true e h f = absurd cc
      go false false e h f = f h

  -- a name that is no primitive's stands for what is found
  pub plain_means : (s : Scope) (x : ℕ) → is_named p (codes "_") x ≡ false
      → ((op : PrimOp) → primitive_from p primitives x ≡ stands.Primitive op → ⊥)
      → means p s x ≡ found_in p s x
  plain_means s x e n = ap
      (λ b. if b then stands.Unbound else unless_primitive (primitive_from p primitives x)
      (found_in p s x)) e ∙ by (primitive_from p primitives x) n
    where
      by : (m : Meaning) → ((op : PrimOp) → m ≡ stands.Primitive op → ⊥)
          → unless_primitive m (found_in p s x) ≡ found_in p s x
      by (stands.Primitive op) n = absurd (n op refl)
      by (stands.Local y) n = refl
      by (stands.Function g k) n = refl
      by stands.Unbound n = refl

  nameless_means : (s : Scope) (x : ℕ) → is_named p (codes "_") x ≡ true
      → means p s x ≡ stands.Unbound
  nameless_means s x e = ap
      (λ b. if b then stands.Unbound else unless_primitive (primitive_from p primitives x)
      (found_in p s x)) e

  primitive_means : (s : Scope) (x : ℕ) (op : PrimOp) → is_named p (codes "_") x ≡ false
      → primitive_from p primitives x ≡ stands.Primitive op → means p s x ≡ stands.Primitive op
  primitive_means s x op e f =
      (λ i. if e i then stands.Unbound else unless_primitive (f i) (found_in p s x))

-- ---- names of an equation

name_in : (bs : List Binder) (k x : ℕ) → slice_get (map (λ (b : Binder). b.name.0) bs) k ≡ Some x
    → (d : Binder) × In d bs × (d.name.0 ≡ x)
name_in [] k x e = absurd cc
name_in (b ∷ bs) zero x e = (b, here, some_is e)
name_in (b ∷ bs) (suc k) x e = let r = name_in bs k x e in (r.0, there r.1, r.2)

twice_at : (bs : List Binder) (j k x : ℕ) → j < k → slice_get (map (λ (b : Binder). b.name.0) bs) j
    ≡ Some x → slice_get (map (λ (b : Binder). b.name.0) bs) k ≡ Some x → Twice x bs
twice_at [] j k x lt e f = absurd cc
twice_at (b ∷ bs) zero zero x lt e f = absurd (omega (arith, lt))
twice_at (b ∷ bs) zero (suc k) x lt e f = twice_in x b bs (some_is e) (name_in bs k x f)
twice_at (b ∷ bs) (suc j) zero x lt e f = absurd (omega (arith, lt))
twice_at (b ∷ bs) (suc j) (suc k) x lt e f = twice_later x b bs
    (twice_at bs j k x (omega (arith, lt)) e f)

names_long : (bs : List (Binder × ℕ)) → length (bound_names bs) ≡ length bs
names_long [] = refl
names_long (b ∷ bs) = ap suc (names_long bs)

name_of : (bs : List (Binder × ℕ)) (k : ℕ) (b : Binder × ℕ) → slice_get bs k ≡ Some b
    → slice_get (map (λ (d : Binder). d.name.0) (bound_names bs)) k ≡ Some b.0.name.0
name_of [] k b e = absurd cc
name_of (d ∷ bs) zero b e = ap (λ (w : Binder × ℕ). Some w.0.name.0) (some_is e)
name_of (d ∷ bs) (suc k) b e = name_of bs k b e

-- the names of binders among others
among_names : (bs : List Binder) (x : ℕ) → ((b : Binder) → In b bs → b.name.0 ≡ x → ⊥)
    → In x (map (λ (b : Binder). b.name.0) bs) → ⊥
among_names bs x n i = let k = in_at (map (λ (b : Binder). b.name.0) bs) i in let d
    = name_in bs k.0 x k.1 in n d.0 d.1 d.2

place_among : (bs : List (Binder × ℕ)) {b : Binder × ℕ} → In b bs → In b.1 (bound_places bs)
place_among [] i = none_in i
place_among (a ∷ bs) here = here
place_among (a ∷ bs) (there i) = there (place_among bs i)

module _ (ctx : Places) where
  abbrev pub locals_of : List (Binder × ℕ) → List ℕ
  locals_of bs = map (λ b. local_of ctx b.1) bs

  module _ (once : (q p : ℕ) → InScope ctx q → InScope ctx p → local_of ctx q ≡ local_of ctx p
      → q ≡ p) where
    locals_apart : (p : ℕ) → InScope ctx p → (bs : List (Binder × ℕ))
        → AllOf (λ q. q ≡ p → ⊥) (bound_places bs) →
        ((q : ℕ) → In q (bound_places bs) → InScope ctx q)
        → AllOf (λ y. y ≡ local_of ctx p → ⊥) (locals_of bs)
    locals_apart p i [] h u = tt
    locals_apart p i (b ∷ bs) h u =
        ((λ e. h.0 (once b.1 p (u b.1 here) i e)), locals_apart p i bs h.1 (λ q j. u q (there j)))

    locals_differ : (bs : List (Binder × ℕ)) → Differ (bound_places bs)
        → ((q : ℕ) → In q (bound_places bs) → InScope ctx q) → Differ (locals_of bs)
    locals_differ [] d u = tt
    locals_differ (b ∷ bs) d u = (
      locals_apart b.1 (u b.1 here) bs d.0 (λ q j. u q (there j)),
      locals_differ bs d.1 (λ q j. u q (there j)),
    )

-- ---- the body of a leaf

module _ (c : Source) (unbroken : (k at : ℕ) → Broken c k at → ⊥) (read : WasRead c)
    (arity many : ℕ → ℕ) (IsFun : ℕ → Type 0)
    (known : (x : ℕ) → x < length c.names → (g k : ℕ)
    → function_from (program_of_heads c) (program_of_heads c).functions 0 x ≡ stands.Function g
    k → IsFun g × (arity g ≡ k)) where
  abbrev text : Program
  text = program_of_heads c

  abbrev out : Program
  out = translated c

  abbrev top : ℕ
  top = length c.names

  abbrev pub scope_of : List Binder → Scope
  scope_of names = binds_all text (map (λ (b : Binder). b.name.0) names)
      (range_with_len 0 (length (map (λ (b : Binder). b.name.0) names))) []

  -- a body in an equation that binds these names
  abbrev pub NormalIn : Expr → List Binder → normal.Term → Type 0
  NormalIn body names term = (after : ℕ) × IsNormal text (scope_of names) (length names) body term
      after

  same_primitive : (qs : List (List ℕ × PrimOp)) (x : ℕ) → x < top
      → primitive_from out qs x ≡ primitive_from text qs x
  same_primitive [] x lt = refl
  same_primitive (q ∷ qs) x lt = λ i. if grounds.same_named c q.0 x lt i then stands.Primitive q.1
      else same_primitive qs x lt i

  module _ (params : ℕ) (within_most : params ≤ most_params c.equations) (ks : List ℕ) (r : Row)
      (comes : Comes c ks r) (done : r.jobs ≡ []) (ctx : Places) (places s : Scope) (n : ℕ)
      (in_scope : (p : ℕ) → In p ks → InScope ctx p)
      (at : At c unbroken read params within_most ctx (λ p x. is_name x (bound_at p r.bound)) places
      s n) where
    abbrev names : List Binder
    names = bound_names r.bound

    abbrev ys : List ℕ
    ys = locals_of ctx r.bound

    abbrev taking : Scope
    taking = taken (name_supply_of c) places r.bound

    names_are : names ≡ names_of comes.equation.pats
    names_are = sym (append_nil names) ∙ ap (λ js. names ++ job_names js) (sym done) ∙ comes.names

    places_differ : Differ (bound_places r.bound)
    places_differ = subst Differ
        (ap (λ js. bound_places r.bound ++ job_places js) done ∙ append_nil (bound_places r.bound))
        comes.once

    used : (q : ℕ) → In q (bound_places r.bound) → InScope ctx q
    used q i = in_scope q
        (in_all q (bound_places r.bound ++ job_places r.jobs) comes.known
        (in_left (bound_places r.bound) (job_places r.jobs) i))
      where
        in_all : (q : ℕ) (ps : List ℕ) → AllOf (λ p. In p ks) ps → In q ps → In q ks
        in_all q [] h i = none_in i
        in_all q (p ∷ ps) h here = h.0
        in_all q (p ∷ ps) h (there i) = in_all q ps h.1 i

    apart : Differ ys
    apart = locals_differ ctx at.once r.bound places_differ used

    -- no name but `_` is bound twice
    one_place : (x : ℕ) → is_named out (codes "_") x ≡ false → (j k : ℕ)
        → slice_get (map (λ (b : Binder). b.name.0) names) j ≡ Some x
        → slice_get (map (λ (b : Binder). b.name.0) names) k ≡ Some x → j ≡ k
    one_place x e j k f g = by (compared j k)
      where
        never : Twice x names → ⊥
        never t = never_twice c unbroken read comes.equation comes.is_in x
            (subst (Twice x) names_are t) e

        by : (j < k) ⊎ ((j ≡ k) ⊎ (k < j)) → j ≡ k
        by (inl lt) = absurd (never (twice_at names j k x lt f g))
        by (inr (inl same)) = same
        by (inr (inr lt)) = absurd (never (twice_at names k j x lt g f))

    -- the names of places that are names of the text are those of the row
    old_name : (p y : ℕ) → y < top → IsPlace c unbroken read params within_most
        (λ p x. is_name x (bound_at p r.bound)) p y → bound_at p r.bound ≡ Some y
    old_name p y lt (inl e) = let le = place_new c unbroken read params p in let more
        = nameless_length c.names in absurd (omega (arith, e, lt, le, more))
    old_name p y lt (inr e) = is_name_some y (bound_at p r.bound) e

    abbrev Same : Meaning → Meaning → Type 0
    Same = SameMeaning arity many IsFun text out (λ x. refl) top (numbered 0 ys)

    module _ (x : ℕ) (lt : x < top) where
      abbrev w : List ℕ
      w = (some_at c.names x lt).0

      w_is : slice_get c.names x ≡ Some w
      w_is = (some_at c.names x lt).1

      named_in : (v : List ℕ) → is_named text v x ≡ bytes_eq w v
      named_in v = named_by c text v w x w_is

      keeps_is : keeps (name_supply_of c) x ≡ is_kept w
      keeps_is = ap (λ o. is_kept (or_empty o)) w_is

      no_more : {P : Type 0} → true ≡ false → P
      no_more e = absurd cc

      -- a name that is not kept
      module _ (free : keeps (name_supply_of c) x ≡ false) where
        plain : is_named text (codes "_") x ≡ false
        plain = elim (two_ways (is_named text (codes "_") x)) [
          | inl e ↦ no_more
              (sym (keeps_is ∙ or_left (is_nameless w) (is_primitive primitives w)
              (sym (named_in (codes "_")) ∙ e)) ∙ free)
          | inr e ↦ e
        ]

        no_primitive : (op : PrimOp) → primitive_from text primitives x ≡ stands.Primitive op → ⊥
        no_primitive op e = no_more
            (sym (keeps_is ∙ or_right (is_nameless w) (is_primitive primitives w)
            (primitive_kept text primitives w x named_in op e)) ∙ free)

        plain_out : is_named out (codes "_") x ≡ false
        plain_out = grounds.same_named c (codes "_") x lt ∙ plain

        -- where the row binds it
        at_place : (b : Binder × ℕ) → In b r.bound → b.0.name.0 ≡ x → (y : ℕ)
            → y ≡ renamed_name places b.1 → Same (means text (scope_of names) x) (means out s y)
        at_place b i e y f =
            let k = in_at r.bound i in
            let at_k : slice_get (map (λ (d : Binder). d.name.0) names) k.0 ≡ Some x
            = name_of r.bound k.0 b k.1 ∙ ap Some e in
            let first : means text (scope_of names) x ≡ stands.Local (0 + k.0) =
            plain_means text (scope_of names) x plain no_primitive ∙ one_found text
            (map (λ (d : Binder). d.name.0) names) 0 [] k.0 x at_k
            (λ j g. one_place x plain_out j k.0 g at_k) plain in
            let linked : LocalsCorrespond (numbered 0 ys) (0 + k.0) (local_of ctx b.1)
            = get_linked ys 0 k.0 (local_of ctx b.1) apart
            (map_get (λ (d : Binder × ℕ). local_of ctx d.1) r.bound k.0 b k.1) in
            let scope : InScope ctx b.1 = used b.1 (place_among r.bound i) in
            let second : means out s y ≡ stands.Local (local_of ctx b.1)
            = ap (means out s) f ∙ stands_for scope (at.place b.1 scope) in
            subst (λ m. Same m (means out s y)) (sym first)
            (subst (λ m. Same (stands.Local (0 + k.0)) m) (sym second) (SameLocal linked))
          where
            stands_for : InScope ctx b.1 → IsPlace c unbroken read params within_most
                (λ p x. is_name x (bound_at p r.bound)) b.1 (renamed_name places b.1)
                → means out s (renamed_name places b.1) ≡ stands.Local (local_of ctx b.1)
            stands_for scope (inl q) =
                let le : length (with_nameless c.names) ≤ renamed_name places b.1
                = subst (λ z. length (with_nameless c.names) ≤ z) (sym q)
                (place_new c unbroken read params b.1) in
                let named : is_named out (codes "_") (renamed_name places b.1) ≡ false
                = new_named c (renamed_name places b.1) le in
                let unbound = new_primitive c (renamed_name places b.1) le in
                plain_means out s (renamed_name places b.1) named (λ op h. not_both unbound h) ∙
                at.local b.1 scope named
              where
                not_both : {op : PrimOp} {m : Meaning} → m ≡ stands.Unbound
                    → m ≡ stands.Primitive op → ⊥
                not_both a b = absurd cc
            stands_for scope (inr q) =
                let same : renamed_name places b.1 ≡ x
                = some_is
                (sym (is_name_some (renamed_name places b.1) (bound_at b.1 r.bound) q) ∙
                at_bound r.bound b places_differ i) ∙ e in
                let named : is_named out (codes "_") (renamed_name places b.1) ≡ false
                = ap (is_named out (codes "_")) same ∙ plain_out in
                plain_means out s (renamed_name places b.1) named
                (λ op h. no_primitive op
                (sym (same_primitive primitives x lt) ∙ sym
                (ap (primitive_from out primitives) same) ∙ h)) ∙ at.local b.1 scope named

        -- where it doesn't
        elsewhere : ((b : Binder) → In b names → b.name.0 ≡ x → ⊥)
            → Same (means text (scope_of names) x) (means out s x)
        elsewhere none =
            let first : means text (scope_of names) x ≡ function_from text text.functions 0 x =
            plain_means text (scope_of names) x plain no_primitive ∙ none_found text
            (map (λ (d : Binder). d.name.0) names) 0 [] x (among_names names x none) in
            let out_free : found_in out s x ≡ function_from out out.functions 0 x =
            at.free x
            (λ p i e. let b = bound_in p r.bound x
            (old_name p x lt
            (subst (IsPlace c unbroken read params within_most
            (λ p x. is_name x (bound_at p r.bound)) p) e (at.place p i))) in none b.0 b.1 b.2)
            in
            let second : means out s x ≡ function_from text text.functions 0 x =
            plain_means out s x plain_out
            (λ op h. no_primitive op (sym (same_primitive primitives x lt) ∙ h)) ∙ out_free ∙
            grounds.same_function c x lt in
            subst (λ m. Same m (means out s x)) (sym first)
            (subst (λ m. Same (function_from text text.functions 0 x) m) (sym second)
            (function_same (function_from text text.functions 0 x) refl
            (function_or text text.functions 0 x)))
          where
            function_same : (m : Meaning) → function_from text text.functions 0 x ≡ m
                → FunctionOr text m → Same m m
            function_same m e (AFunction {g = g} {k = k}) = let h = known x lt g k e
                in SameFunction h.0 h.1
            function_same m e Nothing = SameNothing

        becomes : Same (means text (scope_of names) x) (means out s (renamed_name taking x))
        becomes = elim (taken_name c unbroken read params within_most places r.bound x free) [
          | inl b ↦ at_place b.0 b.1 b.2 (renamed_name taking x) b.3
          | inr h ↦ subst (λ y. Same (means text (scope_of names) x) (means out s y)) (sym h.0)
              (elsewhere h.1)
        ]

        image_free : (renamed_name taking x ≡ x) ⊎ (top ≤ renamed_name taking x)
        image_free = elim (taken_name c unbroken read params within_most places r.bound x free) [
          | inl b ↦ of_place b.0 b.1 b.2 b.3 (at.place b.0.1 (used b.0.1 (place_among r.bound b.1)))
          | inr h ↦ inl h.0
        ]
          where
            of_place : (b : Binder × ℕ) → In b r.bound → b.0.name.0 ≡ x
                → renamed_name taking x ≡ renamed_name places b.1
                → IsPlace c unbroken read params within_most (λ p x. is_name x (bound_at p r.bound))
                b.1 (renamed_name places b.1) → (renamed_name taking x ≡ x)
                ⊎ (top ≤ renamed_name taking x)
            of_place b i e f (inl q) = let le = place_new c unbroken read params b.1 in let more
                = nameless_length c.names in inr (omega (arith, f, q, le, more))
            of_place b i e f (inr q) = inl
                (f ∙ some_is
                (sym (is_name_some (renamed_name places b.1) (bound_at b.1 r.bound) q) ∙ at_bound
                r.bound b places_differ i) ∙ e)

      -- a name that is kept
      stays : keeps (name_supply_of c) x ≡ true → Same (means text (scope_of names) x)
          (means out s x)
      stays k = elim (two_ways (is_named text (codes "_") x)) [
        | inl e ↦ subst (λ m. Same m (means out s x))
            (sym (nameless_means text (scope_of names) x e))
            (subst (λ m. Same stands.Unbound m)
            (sym (nameless_means out s x (grounds.same_named c (codes "_") x lt ∙ e))) SameNothing)
        | inr e ↦ of_primitive e
            (or_cases (is_nameless w) (is_primitive primitives w) (sym keeps_is ∙ k))
      ]
        where
          of_primitive : is_named text (codes "_") x ≡ false → (is_nameless w ≡ true)
              ⊎ (is_primitive primitives w ≡ true) → Same (means text (scope_of names) x)
              (means out s x)
          of_primitive e (inl h) = no_more (sym (named_in (codes "_") ∙ h) ∙ e)
          of_primitive e (inr h) =
              let f = primitive_found text primitives w x named_in h in
              subst (λ m. Same m (means out s x))
              (sym (primitive_means text (scope_of names) x f.0 e f.1))
              (subst (λ m. Same (stands.Primitive f.0) m)
              (sym (primitive_means out s x f.0 (grounds.same_named c (codes "_") x lt ∙ e)
              (same_primitive primitives x lt ∙ f.1))) SamePrimitive)

      meaning : Same (means text (scope_of names) x) (means out s (renamed_name taking x))
      meaning = elim (two_ways (keeps (name_supply_of c) x)) [
        | inl k ↦ subst (λ y. Same (means text (scope_of names) x) (means out s y))
            (sym (taken_kept c unbroken read params within_most places r.bound x k)) (stays k)
        | inr f ↦ becomes f
      ]

      image : (renamed_name taking x ≡ x) ⊎ (top ≤ renamed_name taking x)
      image = elim (two_ways (keeps (name_supply_of c) x)) [
        | inl k ↦ inl (taken_kept c unbroken read params within_most places r.bound x k)
        | inr f ↦ image_free f
      ]

    sees : Sees arity many IsFun text out (λ x. refl) top (numbered 0 ys) (scope_of names) s taking
    sees = record { meaning = λ x lt. meaning x lt; image = λ x lt. image x lt }

    pairs_below : Below (numbered 0 ys) (length names) n
    pairs_below x y l =
        let g = linked_get ys 0 x y l in
        let b = map_at (λ (d : Binder × ℕ). local_of ctx d.1) r.bound g.0 y g.2 in
        let i : InScope ctx b.0.1 = used b.0.1 (place_among r.bound (is_in r.bound g.0 b.1)) in
        let below = at.below b.0.1 i in
        let few = get_within r.bound g.0 b.0 b.1 in
        let same = g.1 in
        let local = b.2 in
        let long = names_long r.bound in
        (omega (arith, few, same, long), omega (arith, below, local))

    pub record LeafMade (e : normal.Term) : Type 0 where
      pub term : normal.Term
      pub is : NormalIn r.body names term
      pub alike : TermAlike arity many IsFun (numbered 0 ys) term e

    pub leaf_made : {e : normal.Term} {m : ℕ} → IsNormal out s n (renamed_expr taking r.body) e m
        → FitsExpr top r.body → TermFits many e → LeafMade e
    leaf_made d fits tf =
        let made = normal_alike arity many IsFun text out (λ x. refl) top
        (λ v x lt. grounds.same_named c v x lt) (numbered 0 ys) (scope_of names) s taking sees
        (length names) pairs_below d r.body refl fits tf in
        record { term = made.term; is = (made.after, made.is); alike = made.alike }

    -- what stands for the row has a body that is alike to the leaf
    pub body_alike : (next : Option ℕ) {e : normal.Term} {m : ℕ}
        → IsNormal out s n (renamed_expr taking r.body) e m → FitsExpr top r.body → TermFits many e
        → (a : MatchAttempt) → Stands c NormalIn arity many IsFun params next ctx r a
        → BodyAlike c NormalIn arity many IsFun params next a e
    body_alike next {e = e} d fits tf a h =
        let made = leaf_made d fits tf in
        let body : NormalIn r.body names a.body = subst (λ z. NormalIn r.body z a.body)
        (ap (λ js. names ++ job_names js) done ∙ append_nil names) h.body in
        let same : made.term ≡ a.body = (normal_one text made.is.1 body.1).0 in
        record {
          pairs = numbered 0 ys;
          linked = λ x y l. let g = linked_get ys 0 x y l in let f = g.1 in let same : x ≡ g.0
              = omega (arith, f) in ap (λ z. slice_get z x) h.bound ∙ ap (slice_get ys) same ∙ g.2;
          alike = subst (λ z. TermAlike arity many IsFun (numbered 0 ys) z e) same made.alike;
        }
