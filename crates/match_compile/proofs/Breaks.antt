-- Which rules the program that equations become can break: none but the one on its size, where each
-- equation as a
-- function of its own breaks none.
use Rattle.std.proofs.Common.{◌≡◌, ℕ, suc, ◌+◌, ◌<◌, ◌≤◌, Bool, true, false, List, [], ◌∷◌, ◌++◌, length, refl, sym, ap, subst, ◌∙◌, length-append, arith, Option, Some, None, ◌⊎◌, inl, inr, ⊎_elim}
use Rattle.std.specs.Prelude.{◌==◌, ℤ, slice_get, codes, if◌then◌else◌}
use Rattle.std.specs.Str.{bytes_eq}
use Rattle.std.proofs.lemmas.Slice.Eq.{bytes_eq-Decides}
use Rattle.seq.specs.Lists.{AllOf, In, here, there, or_empty}
use Rattle.seq.proofs.Lists.{some_is, some_at, get_within, all_get}
use Rattle.seq.proofs.Order.{eq_from, eq_true, differs_from}
use Rattle.seq.proofs.Truth.{two_ways}
use Rattle.seq.proofs.Member.{none_in, in_left, cons_in}
use Rattle.core_reader.specs.declared.syntax.Binder.{Binder}
use Rattle.core_reader.specs.declared.syntax.Pattern.{Pattern}
use Rattle.core_reader.specs.declared.syntax.Pattern.TheVariants as pattern
use Rattle.core_reader.specs.Tree.{Term, Name, Con, Int, Bracket, Application, Bind, Alts, Data, Function}
use Rattle.core_reader.specs.Readable.{IsNamed}
use Rattle.arity_check.specs.declared.normal.PrimOp.{PrimOp}
use Rattle.arity_check.specs.declared.meaning.Meaning.TheVariants as stands
use Rattle.arity_check.specs.Scope.{Scope, is_named, primitives, function_from}
use Rattle.arity_check.specs.Broken.{Broken, DuplicateConstructor, DuplicateFunction, DuplicateName, UnknownName, UnknownConstructor, UnknownPattern, ConstructorArity, PatternArity, DefaultNotLast, DuplicateCon, DuplicateInt, MixedAlternatives, ReservedBinder, ReservedFunction, ReservedConstructor, PrimitiveArity, NoMain, MainHasParameters, NoListConstructors, TooManyFunctions, TooManyConstructors, TooManyParameters, TooManyArguments, TooManyFields, CoreTooLarge, first_constructor_named, Declares}
use Rattle.arity_check.specs.BinderLists.{Repeats, BinderList, OfFunction, OfGroup, OfPattern}
use Rattle.arity_check.specs.Patterns.{alt_at, pattern_place, KindsDiffer, IsDefault}
use Rattle.arity_check.specs.Standing as standing
use Rattle.arity_check.specs.Standing.{HeadIsApplied, Contains}
use Rattle.arity_check.specs.Pieces.{FunctionPart, AnApp, AGroup, SomeAlts, binders_of, bound_by, within, Has, InFunction, StandsApplied}
use Rattle.match_compile.specs.Source.{Equation, Source}
use Rattle.match_compile.specs.Parts.{count, tests_of}
use Rattle.match_compile.specs.Parts as parts
use Rattle.match_compile.specs.Rules as rules
use Rattle.match_compile.specs.Rules.{text_in, fields_in, arity_in}
use Rattle.match_compile.specs.Sizes.{joined, functions, rows}
use Rattle.match_compile.specs.Heads.{Head, Integer, Constructor, same_head, same_kind}
use Rattle.match_compile.specs.Sound.{name_by, equations_as_functions, spread_functions, IsSound}
use Rattle.match_compile.specs.Trees.{max_chained_cases, insert}
use Rattle.match_compile.specs.Decisions.{Decision, row_of, begun, grown, decided, decisions_from, all_decisions, decisions}
use Rattle.match_compile.specs.Renamed.{renamed_name, renamed_term}
use Rattle.match_compile.specs.Translated.{name_supply_of, with_nameless, pattern_of, is_called, first_of, each_of, others_of, firsts, others, translated}
use Rattle.match_compile.proofs.Decided.{by_insert}
use Rattle.match_compile.proofs.Inserted.{same_self}
use Rattle.match_compile.proofs.NamedAs.{IsApart, main_apart, int_apart, nil_apart, cons_apart, primitive_apart, text_of_spread, translated_text, named_text, named_by, same_named, new_apart, is_in}
use Rattle.match_compile.proofs.Grouped.{all_are, all_in, rows_fewer, total, each_name, function_names, name_among, names_append, firsts_names, arity_behind, differ_names}
use Rattle.match_compile.proofs.Bodies.{in_functions, functions_in, IsRenamed, Renamed, StandsBefore, stands_renamed, contains_renamed, renamed_count, stands_readable, has_readable, Fair, fair_renamed}
use Rattle.match_compile.proofs.Sown.{Stood}
use Rattle.match_compile.proofs.Placed.{WasRead, IsGood, spread_is}
use Rattle.match_compile.proofs.Walked.{OfHead, Apart, not_default, GoodAlts, GoodApp, Origin, OfBody, OfAlts, OfApp}
use Rattle.match_compile.proofs.Composed.{IsMade, all_made, params_most, params_of, params_length, good_params, body_from}

-- ---- the number of functions

decided_fewer : (d : Decision) (k : ℕ) (es : List Equation)
    → length (decided d k es) ≤ suc (length es)
decided_fewer d k [] = omega arith
decided_fewer d k (e ∷ es) =
    by_insert (λ ds. length ds ≤ suc (suc (length es))) d k e es
    (insert max_chained_cases d.tree d.free (row_of e))
    (λ t i. let l = decided_fewer (grown d t) (suc k) es in omega (arith, l))
    (let l = decided_fewer (begun k e) (suc k) es in omega (arith, l))

decisions_fewer : (k : ℕ) (es : List Equation) → length (decisions_from k es) ≤ length es
decisions_fewer k [] = omega arith
decisions_fewer k (e ∷ es) = decided_fewer (begun k e) (suc k) es

joined_total : (e : Equation) (fs : List (List Equation)) → total (joined e fs) ≡ suc (total fs)
joined_total e [] = omega arith
joined_total e ([] ∷ fs) = omega arith
joined_total e ((f ∷ es) ∷ fs) = go (e.name == f.name)
  where
    go : (b : Bool) → total (if b then (e ∷ f ∷ es) ∷ fs else (e ∷ []) ∷ (f ∷ es) ∷ fs) ≡ suc
        (total ((f ∷ es) ∷ fs))
    go true = omega arith
    go false = omega arith

pub functions_total : (es : List Equation) → total (functions es) ≡ length es
functions_total [] = refl
functions_total (e ∷ es) = joined_total e (functions es) ∙ ap suc (functions_total es)

spread_length : (before : List Equation) (new : ℕ) (es : List Equation)
    → length (spread_functions before new es) ≡ length es
spread_length before new [] = refl
spread_length before new (e ∷ es) = ap suc (spread_length (before ++ e ∷ []) (suc new) es)

module _ (c : Source) where
  each_length : (ds : List Decision) → length (each_of (name_supply_of c) ds) ≡ length ds
  each_length [] = refl
  each_length (d ∷ ds) = ap suc (each_length ds)

  group_length : (ds : List Decision) → length (first_of (name_supply_of c) ds) + length
      (others_of (name_supply_of c) ds) ≡ length ds
  group_length [] = omega arith
  group_length (d ∷ ds) = omega (arith, each_length ds)

  all_fewer : (k : ℕ) (fs : List (List Equation)) → length
      (firsts (name_supply_of c) (all_decisions k fs)) + length
      (others (name_supply_of c) (all_decisions k fs)) ≤ total fs
  all_fewer k [] = omega arith
  all_fewer k (f ∷ fs) =
      let ds : List Decision = decisions_from k (rows f) in
      let rest : List (List Decision) = all_decisions (k + length f) fs in
      omega (
        arith,
        length-append (first_of (name_supply_of c) ds) (firsts (name_supply_of c) rest),
        length-append (others_of (name_supply_of c) ds) (others (name_supply_of c) rest),
        group_length ds,
        decisions_fewer k (rows f),
        rows_fewer f,
        all_fewer (k + length f) fs,
      )

  no_more_functions : length (translated c).functions ≤ length (equations_as_functions c).functions
  no_more_functions =
      omega (
        arith,
        length-append (firsts (name_supply_of c) (decisions c))
            (others (name_supply_of c) (decisions c)),
        all_fewer 0 (functions c.equations),
        functions_total c.equations,
        spread_length [] (length c.names) c.equations,
      )

-- ---- names of functions

item_named : (gs : List Function) {x : ℕ} → In x (function_names gs) → (i : ℕ) × (g : Function)
    × (slice_get gs i ≡ Some g) × (g.name ≡ x)
item_named [] h = none_in h
item_named (g ∷ gs) here = (0, g, refl, refl)
item_named (g ∷ gs) (there h) = let r = item_named gs h in (suc r.0, r.1, r.2, r.3)

-- an old name of a function of equations is that of one of them
spread_named : (n : ℕ) (before : List Equation) (new : ℕ) (es : List Equation) {x : ℕ} → n ≤ new
    → x < n → In x (function_names (spread_functions before new es)) → (e : Equation) × In e es
    × (e.name ≡ x)
spread_named n before new [] le lt h = none_in h
spread_named n before new (e ∷ es) {x = x} le lt h = elim
    (cons_in (name_by (arity_in before e.name) e.name new)
    (function_names (spread_functions (before ++ e ∷ []) (suc new) es)) h) [
      | inl q ↦ (e, here, old (arity_in before e.name) q)
      | inr i ↦ let r = spread_named n (before ++ e ∷ []) (suc new) es (omega (arith, le)) lt i
          in (r.0, there r.1, r.2)
    ]
  where
    old : (o : Option ℕ) → x ≡ name_by o e.name new → e.name ≡ x
    old None q = sym q
    old (Some k) q = absurd (omega (arith, q, le, lt))

-- the name of each equation is that of one
spread_names : (before : List Equation) (new : ℕ) (es : List Equation) {e : Equation} → In e es
    → arity_in before e.name ≡ None → In e.name (function_names (spread_functions before new es))
spread_names before new [] h a = none_in h
spread_names before new (d ∷ es) {e = e} h a = go (two_ways (d.name == e.name)) h
    (λ i q. spread_names (before ++ d ∷ []) (suc new) es i q)
  where
    go : ((d.name == e.name) ≡ true) ⊎ ((d.name == e.name) ≡ false) → In e (d ∷ es)
        → (In e es → arity_in (before ++ d ∷ []) e.name ≡ None
        → In e.name (function_names (spread_functions (before ++ d ∷ []) (suc new) es)))
        → In e.name
        (name_by (arity_in before d.name) d.name new ∷ function_names
        (spread_functions (before ++ d ∷ []) (suc new) es))
    go (inl q) h rest =
        let same : d.name ≡ e.name = eq_from d.name e.name q in
        let is : name_by (arity_in before d.name) d.name new ≡ e.name
        = (λ i. name_by (arity_in before (same i)) (same i) new) ∙ ap
        (λ o. name_by o e.name new) a in
        subst (λ y. In e.name
        (y ∷ function_names (spread_functions (before ++ d ∷ []) (suc new) es))) (sym is) here
    go (inr q) h rest =
        there (⊎_elim
        (λ same. absurd
        (differs_from d.name e.name q (ap (λ (f : Equation). f.name) (sym same))))
        (λ i. rest i
        (arity_behind before (d ∷ []) e.name a ∙ ap
        (λ t. if t then Some (count d.pats) else None) q)) (cons_in d es h))

-- ---- declarations

fields_first : (ds : List Data) (x n : ℕ) → fields_in ds x ≡ Some n → (d : Data)
    × (first_constructor_named x ds ≡ Some d) × (d.fields ≡ n)
fields_first [] x n e = absurd cc
fields_first (d ∷ ds) x n e = go (d.name == x) e (λ h. fields_first ds x n h)
  where
    go : (b : Bool) → (if b then Some d.fields else fields_in ds x) ≡ Some n
        → (fields_in ds x ≡ Some n → (f : Data) × (first_constructor_named x ds ≡ Some f)
        × (f.fields ≡ n)) → (f : Data) ×
        ((if b then Some d else first_constructor_named x ds) ≡ Some f) × (f.fields ≡ n)
    go true e g = (d, refl, some_is e)
    go false e g = g e

-- ---- heads of patterns

module _ (c : Source) (at params : ℕ) where
  con_head : (h : Head) (d : Binder) (fields : List Binder)
      → OfHead c at params h (pattern.Con d fields) → h ≡ Constructor d.name.0
  con_head (Integer k) d fields o = absurd (no o.is)
    where
      no : {k : ℤ} {b : ℕ} → pattern.Con d fields ≡ pattern.Int k b → ⊥
      no e = cc
  con_head (Constructor g) d fields o = ap Constructor
      (ap (λ (b : Binder). b.name.0) (sym (first_of_con o.is)))
    where
      first_of_con : {b e : Binder} {xs ys : List Binder} → pattern.Con b xs ≡ pattern.Con e ys
          → b ≡ e
      first_of_con e = cc

  int_head : (h : Head) (k : ℤ) (b : ℕ) → OfHead c at params h (pattern.Int k b) → h ≡ Integer k
  int_head (Integer j) k b o = ap Integer (sym (first_of_int o.is))
    where
      first_of_int : {k j : ℤ} {a b : ℕ} → pattern.Int k a ≡ pattern.Int j b → k ≡ j
      first_of_int e = cc
  int_head (Constructor g) k b o = absurd (no o.is)
    where
      no : {d : Binder} {fields : List Binder} → pattern.Int k b ≡ pattern.Con d fields → ⊥
      no e = cc

  no_both : {X : Type 0} (b : Bool) → b ≡ true → b ≡ false → X
  no_both b e f = absurd cc

  -- two tests of one case are of one kind
  one_kind : (h g : Head) (xs ys : List Binder) → same_kind h g ≡ true
      → KindsDiffer (pattern_of (name_supply_of c) at params h xs)
      (pattern_of (name_supply_of c) at params g ys) → ⊥
  one_kind (Integer k) (Integer j) xs ys e d = d
  one_kind (Integer k) (Constructor f) xs ys e d = absurd cc
  one_kind (Constructor f) (Integer j) xs ys e d = absurd cc
  one_kind (Constructor f) (Constructor g) xs ys e d = d

  default_kind : (p q : Pattern) → IsDefault q → KindsDiffer p q → ⊥
  default_kind (pattern.Con d xs) (pattern.Default x) i e = e
  default_kind (pattern.Int k b) (pattern.Default x) i e = e
  default_kind (pattern.Default y) (pattern.Default x) i e = e
  default_kind p (pattern.Con d xs) i e = i
  default_kind p (pattern.Int k b) i e = i

  apart_kind : (p q : Pattern) → Apart c at params p q → KindsDiffer p q → ⊥
  apart_kind p q a d = elim a.second [
    | inl i ↦ default_kind p q i d
    | inr s ↦ one_kind a.head s.0 a.first.fields s.1.fields s.2.1
        (subst (λ w. KindsDiffer w (pattern_of (name_supply_of c) at params s.0 s.1.fields))
        a.first.is (subst (KindsDiffer p) s.1.is d))
  ]

  -- and of different heads
  apart_heads : (p q : Pattern) (h g : Head) → Apart c at params p q
      → ((x : Head) → OfHead c at params x p → x ≡ h)
      → ((x : Head) → OfHead c at params x q → x ≡ g) → (IsDefault q → ⊥) → same_head h g ≡ false
  apart_heads p q h g a f k n = elim a.second [
    | inl i ↦ absurd (n i)
    | inr s ↦ (λ i. same_head (sym (f a.head a.first) i) (sym (k s.0 s.1) i)) ∙ s.2.0
  ]

-- ---- the rules

module _ (c : Source) (unbroken : (k at : ℕ) → rules.Broken c k at → ⊥) (sound : IsSound c)
    (read : WasRead c) where
  no_two : {X : Type 0} (b : Bool) → b ≡ true → b ≡ false → X
  no_two b e f = absurd cc

  -- a function of the program
  made_at : (i : ℕ) (g : Function) → slice_get (translated c).functions i ≡ Some g → IsMade c g
  made_at i g e = all_get (IsMade c) (translated c).functions i g (all_made c unbroken) e

  -- where one of its pieces comes from
  record From (now : Scope) (q : FunctionPart) : Type 0 where
    decision : Decision
    stood : Stood c decision
    origin : Origin c unbroken sound read decision.at decision.params
        (params_most c unbroken read decision stood) now q

  from : (now : Scope) (q : FunctionPart) → InFunction (translated c) now q → From now q
  from now q f =
      let m = made_at f.number f.function f.is in
      record {
        decision = m.decision;
        stood = m.stood;
        origin = body_from c unbroken sound read m.decision m.stood m.next m.fits
            (subst (λ (g : Function). Has (translated c) (within (translated c) g.params []) g.body
            now q) m.is f.has);
      }

  -- a piece of an equation's body is one of a function of its own
  in_spread : (e : Equation) → In e c.equations → (t : Scope) (q : FunctionPart)
      → Has (equations_as_functions c)
      (within (equations_as_functions c) (parts.names_of e.pats) []) e.body t q
      → InFunction (equations_as_functions c) t q
  in_spread e i t q h =
      let s = spread_is c unbroken sound read e i in
      record {
        number = s.number;
        function = s.function;
        is = s.is;
        has = subst
            (λ xs. Has (equations_as_functions c) (within (equations_as_functions c) xs [])
            s.function.body t q) (sym s.params)
            (subst (λ b. Has (equations_as_functions c)
            (within (equations_as_functions c) (parts.names_of e.pats) []) b t q) (sym s.body) h);
      }

  -- ---- names

  named_in : {e : Equation} → In e c.equations → In e.name (function_names (translated c).functions)
  named_in {e = e} i =
      subst (In e.name)
      (sym (names_append (firsts (name_supply_of c) (decisions c))
      (others (name_supply_of c) (decisions c))))
      (in_left (function_names (firsts (name_supply_of c) (decisions c)))
      (function_names (others (name_supply_of c) (decisions c)))
      (subst (In e.name) (sym (firsts_names c 0 (functions c.equations)))
      (each_name c.equations i)))

  -- an old name of a function there is one here
  old_function : (x : ℕ) → x < length c.names → In x
      (function_names (equations_as_functions c).functions)
      → In x (function_names (translated c).functions)
  old_function x lt i =
      let r = spread_named (length c.names) [] (length c.names) c.equations (omega arith) lt i in
      subst (λ y. In y (function_names (translated c).functions)) r.2 (named_in r.1)

  named_below : (x : ℕ) → IsNamed c.names x → x < length c.names
  named_below x r = get_within c.names x r.0 r.1

  global : (x : ℕ) → IsNamed c.names x →
      (function_from (equations_as_functions c) (equations_as_functions c).functions 0 x ≡
      stands.Unbound → ⊥) → function_from (translated c) (translated c).functions 0 x ≡
      stands.Unbound → ⊥
  global x r h = functions_in (translated c) (translated c).functions 0 x
      (old_function x (named_below x r)
      (in_functions (equations_as_functions c) (equations_as_functions c).functions 0 x h))

  all_below : AllOf (λ (e : Equation). e.name < length c.names) c.equations
  all_below = all_are (λ e. In e c.equations) (λ (e : Equation). e.name < length c.names)
      (λ e i. named_below e.name (read.names e i)) c.equations (all_in c.equations)

  -- what a function of the program is named
  record IsOld (g : Function) : Type 0 where
    equation : Equation
    is_in : In equation c.equations
    name : g.name ≡ equation.name
    params : length g.params ≡ count equation.pats

  old_or_new : (i : ℕ) (g : Function) → slice_get (translated c).functions i ≡ Some g → IsOld g
      ⊎ (length (with_nameless c.names) ≤ g.name)
  old_or_new i g e =
      let m = made_at i g e in
      let name_is : g.name ≡ m.name = ap (λ (f : Function). f.name) m.is in
      let many : length g.params ≡ count m.stood.first.pats
      = ap (λ (f : Function). length f.params) m.is ∙ params_length c unbroken read m.decision
      m.stood (is_called (name_supply_of c) m.decision m.next) ∙ m.stood.params in
      elim m.named [
        | inl q ↦ inl
            (record {
              equation = m.stood.first;
              is_in = m.stood.is_in;
              name
                  = name_is ∙ q ∙ m.stood.name;
              params = many;
            })
        | inr le ↦ inr (subst (λ n. length (with_nameless c.names) ≤ n) (sym name_is) le)
      ]

  few_params : (i : ℕ) (g : Function) → slice_get (translated c).functions i ≡ Some g
      → length g.params ≤ 12
  few_params i g e =
      let m = made_at i g e in
      let many : length g.params ≡ count m.stood.first.pats
      = ap (λ (f : Function). length f.params) m.is ∙ params_length c unbroken read m.decision
      m.stood (is_called (name_supply_of c) m.decision m.next) ∙ m.stood.params in
      let le = sound.patterns m.stood.first m.stood.is_in in
      omega (arith, many, le)

  -- a text of the program is that of the source, and `_` is `_`
  nameless_there : (x : ℕ) → is_named (translated c) (codes "_") x ≡ false
      → is_named (equations_as_functions c) (codes "_") x ≡ false
  nameless_there x n = elim (two_ways (is_named (equations_as_functions c) (codes "_") x)) [
    | inr f ↦ f
    | inl e ↦ let t = named_text c (equations_as_functions c) (codes "_") x e
        in by t.0 t.2 (text_of_spread c x t.1)
  ]
    where
      by : (b : List ℕ) → bytes_eq b (codes "_") ≡ true → (slice_get c.names x ≡ Some b)
          ⊎ ((m : List ℕ) × (b ≡ codes "match'" ++ m))
          → is_named (equations_as_functions c) (codes "_") x ≡ false
      by b e (inl l) = no_two (is_named (translated c) (codes "_") x)
          (named_by c (translated c) (codes "_") b x (translated_text c x l) ∙ e) n
      by b e (inr m) = let f : bytes_eq b (codes "_") ≡ false = ap (λ w. bytes_eq w (codes "_")) m.1
          in no_two (bytes_eq b (codes "_")) e f

  repeats_there : (xs : List Binder) (at : ℕ) → Repeats (translated c) xs at
      → Repeats (equations_as_functions c) xs at
  repeats_there xs at r = record {
    i = r.i;
    j = r.j;
    first = r.first;
    second = r.second;
    before = r.before;
    is_first
        = r.is_first;
    is_second = r.is_second;
    same = r.same;
    named
        = nameless_there r.second.name.0 r.named;
    here = r.here;
  }

  -- ---- lists of binders

  -- of one here, or of one there
  record IsFine (xs : List Binder) : Type 0 where
    once : (at : ℕ) → Repeats (translated c) xs at → ⊥
    plain : (i n : ℕ) (x : Binder) (q : List ℕ × PrimOp) → slice_get xs i ≡ Some x
        → slice_get primitives n ≡ Some q → is_named (translated c) q.0 x.name.0 ≡ true → ⊥

  fine_there : (xs : List Binder) → BinderList (equations_as_functions c) xs → IsFine xs
  fine_there xs l = record {
    once = λ at r. sound.unbroken 13 at refl (DuplicateName l (repeats_there xs at r));
    plain = λ i n x q e f h. sound.unbroken 22 x.at refl
        (ReservedBinder i n l e f (sym (same_named c q.0 (primitive_apart n f) x.name.0) ∙ h));
  }

  good_fine : (params : ℕ) (le : _) (xs : List Binder) → IsGood c unbroken sound read params le xs
      → IsFine xs
  good_fine params le xs g = record { once = g.once; plain = g.plain }

  group_fine : (t : Scope) (group : List Bind) → From t (AGroup group) → IsFine (binders_of group)
  group_fine t group f = by f.origin
    where
      of_piece : (e : Equation) → In e c.equations →
          (w : Renamed c (within (equations_as_functions c) (parts.names_of e.pats) []) e.body t
          (AGroup group)) (q : FunctionPart) → w.piece ≡ q → IsRenamed c w.names q (AGroup group)
          → IsFine (binders_of group)
      of_piece e i w (AnApp a) is r = absurd r
      of_piece e i w (SomeAlts a) is r = absurd r
      of_piece e i w (AGroup g) is r = subst IsFine (sym r)
          (fine_there (binders_of g)
          (OfGroup (in_spread e i w.scope (AGroup g)
          (subst (Has (equations_as_functions c)
          (within (equations_as_functions c) (parts.names_of e.pats) []) e.body w.scope) is
          w.has))))

      by : Origin c unbroken sound read f.decision.at f.decision.params
          (params_most c unbroken read f.decision f.stood) t (AGroup group)
          → IsFine (binders_of group)
      by (OfBody e i w) = of_piece e i w w.piece refl w.renamed

  -- ---- cases

  -- a case is one of a body, or on a place
  record SameAlts (alts : Alts) : Type 0 where
    scope : Scope
    before : Alts
    there : InFunction (equations_as_functions c) scope (SomeAlts before)
    same : (i : ℕ) → alt_at alts i ≡ alt_at before i

  alts_either : (t : Scope) (alts : Alts) (f : From t (SomeAlts alts)) → SameAlts alts
      ⊎ GoodAlts c unbroken sound read f.decision.at f.decision.params
      (params_most c unbroken read f.decision f.stood) alts
  alts_either t alts f = by f.origin
    where
      of_piece : (e : Equation) → In e c.equations →
          (w : Renamed c (within (equations_as_functions c) (parts.names_of e.pats) []) e.body t
          (SomeAlts alts)) (q : FunctionPart) → w.piece ≡ q → IsRenamed c w.names q (SomeAlts alts)
          → SameAlts alts
      of_piece e i w (AnApp a) is r = absurd r
      of_piece e i w (AGroup g) is r = absurd r
      of_piece e i w (SomeAlts a) is r = record {
        scope = w.scope;
        before = a;
        there = in_spread e i w.scope (SomeAlts a)
            (subst (Has (equations_as_functions c)
            (within (equations_as_functions c) (parts.names_of e.pats) []) e.body w.scope) is
            w.has);
        same = r;
      }

      by : Origin c unbroken sound read f.decision.at f.decision.params
          (params_most c unbroken read f.decision f.stood) t (SomeAlts alts)
          → SameAlts alts ⊎ GoodAlts c unbroken sound read f.decision.at f.decision.params
          (params_most c unbroken read f.decision f.stood) alts
      by (OfBody e i w) = inl (of_piece e i w w.piece refl w.renamed)
      by (OfAlts g) = inr g

  list_fine : (xs : List Binder) → BinderList (translated c) xs → IsFine xs
  list_fine xs (OfFunction {f = g} i e) =
      let m = made_at i g e in
      let called : Bool = is_called (name_supply_of c) m.decision m.next in
      subst (λ (f : Function). IsFine f.params) (sym m.is)
      (good_fine m.decision.params (params_most c unbroken read m.decision m.stood)
      (params_of c unbroken read m.decision m.stood called)
      (good_params c unbroken sound read m.decision m.stood called))
  list_fine xs (OfGroup {t = t} {group = group} f) = group_fine t group (from t (AGroup group) f)
  list_fine xs (OfPattern {t = t} {alts = alts} {pat = pat} i f e) = by (from t (SomeAlts alts) f)
    where
      by : From t (SomeAlts alts) → IsFine (bound_by pat)
      by w = elim (alts_either t alts w) [
        | inl s ↦ fine_there (bound_by pat) (OfPattern i s.there (sym (s.same i) ∙ e))
        | inr g ↦ good_fine w.decision.params (params_most c unbroken read w.decision w.stood)
            (bound_by pat) (g.lists i pat e)
      ]

  -- ---- applications

  -- an application is one of a body, or good by itself
  record SameApp (t : Scope) (app : Application) : Type 0 where
    equation : Equation
    is_in : In equation c.equations
    renamed : Renamed c (within (equations_as_functions c) (parts.names_of equation.pats) [])
        equation.body t (AnApp app)
    before : Application
    is : renamed.piece ≡ AnApp before
    app_is : IsRenamed c renamed.names (AnApp before) (AnApp app)

  app_either : (t : Scope) (app : Application) → From t (AnApp app) → SameApp t app
      ⊎ GoodApp c unbroken sound read t app
  app_either t app f = by f.origin
    where
      of_piece : (e : Equation) → In e c.equations →
          (w : Renamed c (within (equations_as_functions c) (parts.names_of e.pats) []) e.body t
          (AnApp app)) (q : FunctionPart) → w.piece ≡ q → IsRenamed c w.names q (AnApp app)
          → SameApp t app
      of_piece e i w (AnApp a) is r = record
          { equation = e; is_in = i; renamed = w; before = a; is = is; app_is = r }
      of_piece e i w (AGroup g) is r = absurd r
      of_piece e i w (SomeAlts a) is r = absurd r

      by : Origin c unbroken sound read f.decision.at f.decision.params
          (params_most c unbroken read f.decision f.stood) t (AnApp app) → SameApp t app
          ⊎ GoodApp c unbroken sound read t app
      by (OfBody e i w) = inl (of_piece e i w w.piece refl w.renamed)
      by (OfApp g) = inr g

  module _ (t : Scope) (app : Application) (s : SameApp t app) where
    has_before : Has (equations_as_functions c)
        (within (equations_as_functions c) (parts.names_of s.equation.pats) []) s.equation.body
        s.renamed.scope (AnApp s.before)
    has_before = subst
        (Has (equations_as_functions c)
        (within (equations_as_functions c) (parts.names_of s.equation.pats) []) s.equation.body
        s.renamed.scope) s.is s.renamed.has

    there_before : InFunction (equations_as_functions c) s.renamed.scope (AnApp s.before)
    there_before = in_spread s.equation s.is_in s.renamed.scope (AnApp s.before) has_before

    stands_before : (h : Term) (k : ℕ) → HeadIsApplied app.head app.args h k
        → StandsBefore s.renamed.names h s.before.head s.before.args k
    stands_before h k st = stands_renamed s.renamed.names s.before.head s.before.args st
        (ap (λ (a : Application). a.head) s.app_is) (ap (λ (a : Application). a.args) s.app_is)

    name_fair : (x at k : ℕ) → HeadIsApplied app.head app.args (Name x at) k → Fair c t x k
    name_fair x at k st = let b = stands_before (Name x at) k st in by b.term b.stands b.is
      where
        by : (h : Term) → HeadIsApplied s.before.head s.before.args h k
            → Name x at ≡ renamed_term s.renamed.names h → Fair c t x k
        by (Con y b) st e = absurd cc
        by (Int y b) st e = absurd cc
        by (Bracket y ts b) st e = absurd cc
        by (Name y b) st e =
            let r = has_readable c.names (equations_as_functions c) has_before
            (read.bodies s.equation s.is_in) in
            let named : IsNamed c.names y = stands_readable c.names st r.0 r.1 in
            let same : x ≡ renamed_name s.renamed.names y = cc in
            subst (λ z. Fair c t z k) (sym same)
            (fair_renamed c s.renamed.names s.renamed.scope t y k named s.renamed.fits
            (λ u. sound.unbroken 14 b refl (UnknownName (s.before, there_before, st) u))
            (λ op m n. sound.unbroken 23 b refl (PrimitiveArity (s.before, there_before, st) m n))
            (λ g. global y named g))

    con_before : (d at k : ℕ) → HeadIsApplied app.head app.args (Con d at) k → (b : ℕ)
        × HeadIsApplied s.before.head s.before.args (Con d b) k
    con_before d at k st = let b = stands_before (Con d at) k st in by b.term b.stands b.is
      where
        by : (h : Term) → HeadIsApplied s.before.head s.before.args h k
            → Con d at ≡ renamed_term s.renamed.names h → (b : ℕ)
            × HeadIsApplied s.before.head s.before.args (Con d b) k
        by (Name y b) st e = absurd cc
        by (Int y b) st e = absurd cc
        by (Bracket y ts b) st e = absurd cc
        by (Con y b) st e = let same : d ≡ y = cc in
            (b, subst (λ z. HeadIsApplied s.before.head s.before.args (Con z b) k) (sym same) st)

    few_before : (inner : Application) → Contains app inner → standing.count inner.args ≤ 12
    few_before inner h =
        let w = contains_renamed s.renamed.names s.before h s.app_is in
        let le = sound.arguments s.renamed.scope s.before w.before there_before w.contains in
        let same : standing.count inner.args ≡ standing.count w.before.args
        = ap (λ (a : Application). standing.count a.args) w.is ∙ renamed_count s.renamed.names
        w.before.args in
        omega (arith, le, same)

  used_fair : (t : Scope) (x at k : ℕ) → StandsApplied (translated c) t (Name x at) k → Fair c t x k
  used_fair t x at k u = elim (app_either t u.0 (from t (AnApp u.0) u.1)) [
    | inl s ↦ name_fair t u.0 s x at k u.2
    | inr g ↦ g.names x at k u.2
  ]

  used_con : (t : Scope) (d at k : ℕ) → StandsApplied (translated c) t (Con d at) k → (s : Scope)
      × (b : ℕ) × StandsApplied (equations_as_functions c) s (Con d b) k
  used_con t d at k u = elim (app_either t u.0 (from t (AnApp u.0) u.1)) [
    | inl s ↦ let w = con_before t u.0 s d at k u.2
        in (s.renamed.scope, w.0, (s.before, there_before t u.0 s, w.1))
    | inr g ↦ absurd (g.constructors d at k u.2)
  ]

  few_arguments : (t : Scope) (app inner : Application) → InFunction (translated c) t (AnApp app)
      → Contains app inner → standing.count inner.args ≤ 12
  few_arguments t app inner f h = elim (app_either t app (from t (AnApp app) f)) [
    | inl s ↦ few_before t app s inner h
    | inr g ↦ g.short inner h
  ]

  -- ---- all

  declared_there : (name : List ℕ) (n : ℕ) → IsApart name
      → Declares (equations_as_functions c) name n → Declares (translated c) name n
  declared_there name n a d = (d.0, d.1, same_named c name a d.0.name ∙ d.2, d.3)

  main_there : (i : ℕ) (f : Function) → slice_get (equations_as_functions c).functions i ≡ Some f
      → is_named (equations_as_functions c) (codes "main") f.name ≡ true
      → In f.name (function_names (translated c).functions)
  main_there i f e n =
      let t = named_text c (equations_as_functions c) (codes "main") f.name n in
      by t.0 t.2 (text_of_spread c f.name t.1)
    where
      by : (b : List ℕ) → bytes_eq b (codes "main") ≡ true → (slice_get c.names f.name ≡ Some b)
          ⊎ ((m : List ℕ) × (b ≡ codes "match'" ++ m))
          → In f.name (function_names (translated c).functions)
      by b q (inl l) = old_function f.name (get_within c.names f.name b l)
          (name_among (equations_as_functions c).functions
          (is_in (equations_as_functions c).functions i e))
      by b q (inr m) = no_two (bytes_eq b (codes "main")) q (main_apart b (inr m))

  pub breaks_only_size : (k at : ℕ) → Broken (translated c) k at → k ≡ 35
  breaks_only_size k at (DuplicateConstructor lt a b e)
      = absurd (sound.unbroken k at refl (DuplicateConstructor lt a b e))
  breaks_only_size k at (DuplicateFunction {i = i} {j = j} {f = f} {g = g} lt a b e)
      = absurd (differ_names c unbroken all_below i j f g lt a b e)
  breaks_only_size k at (DuplicateName {xs = xs} l r) = absurd ((list_fine xs l).once at r)
  breaks_only_size k at (UnknownName {t = t} {x = x} {k = n} u m)
      = absurd ((used_fair t x at n u).bound m)
  breaks_only_size k at (UnknownConstructor {t = t} {c = d} {k = n} u m) = let w
      = used_con t d at n u in absurd (sound.unbroken 14 w.1 refl (UnknownConstructor w.2 m))
  breaks_only_size k at (UnknownPattern {t = t} {alts = alts} {c = d} {fields = fields} i f a m)
      = elim (alts_either t alts (from t (SomeAlts alts) f)) [
        | inl s ↦ absurd
            (sound.unbroken 14 d.at refl (UnknownPattern i s.there (sym (s.same i) ∙ a) m))
        | inr g ↦ let w = fields_first c.constructors d.name.0 (length fields)
            (g.fields i d fields a)
            in absurd (none_some (sym m ∙ w.1))
      ]
    where
      none_some : {x : Data} → ◌≡◌ {A = Option Data} None (Some x) → ⊥
      none_some e = cc
  breaks_only_size k at (ConstructorArity {t = t} {c = d} {k = n} u m e) = let w
      = used_con t d at n u in absurd (sound.unbroken 15 w.1 refl (ConstructorArity w.2 m e))
  breaks_only_size k at
      (PatternArity {t = t} {alts = alts} {c = d} {fields = fields} {d = declared} i f a m e)
      = elim (alts_either t alts (from t (SomeAlts alts) f)) [
        | inl s ↦ absurd
            (sound.unbroken 15 d.at refl (PatternArity i s.there (sym (s.same i) ∙ a) m e))
        | inr g ↦ let w = fields_first c.constructors d.name.0 (length fields)
            (g.fields i d fields a)
            in absurd (e (sym w.2 ∙ ap (λ (x : Data). x.fields) (some_is (sym w.1 ∙ m))))
      ]
  breaks_only_size k at (DefaultNotLast {t = t} {alts = alts} {x = x} {next = next} i f a b)
      = absurd (by (from t (SomeAlts alts) f))
    where
      by : From t (SomeAlts alts) → ⊥
      by w = elim (alts_either t alts w) [
        | inl s ↦ absurd
            (sound.unbroken 16 x.at refl
            (DefaultNotLast i s.there (sym (s.same i) ∙ a) (sym (s.same (i + 1)) ∙ b)))
        | inr g ↦ absurd
            (not_default c w.decision.at w.decision.params
            (g.apart i (i + 1) (pattern.Default x) next (omega arith) a b) tt)
      ]
  breaks_only_size k at
      (DuplicateCon {t = t} {alts = alts} {c = d} {d = e} {xs = xs} {ys = ys} i j f lt a b q)
      = absurd (by (from t (SomeAlts alts) f))
    where
      by : From t (SomeAlts alts) → ⊥
      by w = elim (alts_either t alts w) [
        | inl s ↦ absurd
            (sound.unbroken 17 e.at refl
            (DuplicateCon i j s.there lt (sym (s.same i) ∙ a) (sym (s.same j) ∙ b) q))
        | inr g ↦
            let n = apart_heads c w.decision.at w.decision.params (pattern.Con d xs)
            (pattern.Con e ys) (Constructor d.name.0) (Constructor e.name.0)
            (g.apart i j (pattern.Con d xs) (pattern.Con e ys) lt a b)
            (λ h o. con_head c w.decision.at w.decision.params h d xs o)
            (λ h o. con_head c w.decision.at w.decision.params h e ys o) (λ z. z) in
            no_two (d.name.0 == e.name.0) (eq_true d.name.0 e.name.0 (sym q)) n
      ]
  breaks_only_size k at
      (DuplicateInt {t = t} {alts = alts} {k = z} {at = p} {at' = p'} i j f lt a b)
      = absurd (by (from t (SomeAlts alts) f))
    where
      by : From t (SomeAlts alts) → ⊥
      by w = elim (alts_either t alts w) [
        | inl s ↦ absurd
            (sound.unbroken 17 p' refl
            (DuplicateInt i j s.there lt (sym (s.same i) ∙ a) (sym (s.same j) ∙ b)))
        | inr g ↦
            let n = apart_heads c w.decision.at w.decision.params (pattern.Int z p)
            (pattern.Int z p') (Integer z) (Integer z)
            (g.apart i j (pattern.Int z p) (pattern.Int z p') lt a b)
            (λ h o. int_head c w.decision.at w.decision.params h z p o)
            (λ h o. int_head c w.decision.at w.decision.params h z p' o) (λ y. y) in
            no_two (same_head (Integer z) (Integer z)) (same_self (Integer z)) n
      ]
  breaks_only_size k at (MixedAlternatives {t = t} {alts = alts} {q = p} {r = q} i j f first lt b d)
      = absurd (by (from t (SomeAlts alts) f))
    where
      by : From t (SomeAlts alts) → ⊥
      by w = elim (alts_either t alts w) [
        | inl s ↦
            let before : (j : ℕ) (r : Pattern) → j < i → alt_at s.before j ≡ Some r → IsDefault r
            = λ j r l e. first.before j r l (s.same j ∙ e) in
            absurd (sound.unbroken 18 (pattern_place q) refl
            (MixedAlternatives i j s.there
            (record {
              here = sym (s.same i) ∙ first.here;
              plain = first.plain;
              before
                  = before;
            }) lt (sym (s.same j) ∙ b) d))
        | inr g ↦ absurd
            (apart_kind c w.decision.at w.decision.params p q (g.apart i j p q lt first.here b) d)
      ]
  breaks_only_size k at (ReservedBinder {xs = xs} {x = x} {q = q} i n l a b h)
      = absurd ((list_fine xs l).plain i n x q a b h)
  breaks_only_size k at (ReservedFunction {f = g} {q = q} i n a b h) = elim (old_or_new i g a) [
    | inl o ↦
        let w = item_named (equations_as_functions c).functions
        (spread_names [] (length c.names) c.equations o.is_in refl) in
        absurd (sound.unbroken 22 w.1.at refl
        (ReservedFunction w.0 n w.2 b
        (ap (is_named (equations_as_functions c) q.0) (w.3 ∙ sym o.name) ∙ sym
        (same_named c q.0 (primitive_apart n b) g.name) ∙ h)))
    | inr le ↦ no_two (is_named (translated c) q.0 g.name) h
        (new_apart c q.0 (primitive_apart n b) g.name le)
  ]
  breaks_only_size k at (ReservedConstructor {d = d} i a h)
      = absurd (sound.unbroken 22 d.at refl
      (ReservedConstructor i a (sym (same_named c (codes "Int") int_apart d.name) ∙ h)))
  breaks_only_size k at (PrimitiveArity {t = t} {x = x} {k = n} {op = op} u m e)
      = absurd ((used_fair t x at n u).two op m e)
  breaks_only_size k at (NoMain h) = absurd
      (sound.unbroken 19 0 refl
      (NoMain (λ i f e. by i f e
      (two_ways (is_named (equations_as_functions c) (codes "main") f.name)))))
    where
      by : (i : ℕ) (f : Function) → slice_get (equations_as_functions c).functions i ≡ Some f
          → (is_named (equations_as_functions c) (codes "main") f.name ≡ true)
          ⊎ (is_named (equations_as_functions c) (codes "main") f.name ≡ false)
          → is_named (equations_as_functions c) (codes "main") f.name ≡ false
      by i f e (inr n) = n
      by i f e (inl n) =
          let w = item_named (translated c).functions (main_there i f e n) in
          sym (same_named c (codes "main") main_apart f.name) ∙ ap
          (is_named (translated c) (codes "main")) (sym w.3) ∙ h w.0 w.1 w.2
  breaks_only_size k at (MainHasParameters {f = g} i a h lt) = elim (old_or_new i g a) [
    | inl o ↦
        let r = read.names o.equation o.is_in in
        let named : bytes_eq r.0 (codes "main") ≡ true
        = sym (named_by c (translated c) (codes "main") r.0 o.equation.name
        (translated_text c o.equation.name r.1)) ∙ ap (is_named (translated c) (codes "main"))
        (sym o.name) ∙ h in
        let le = sound.main o.equation o.is_in
        (ap or_empty r.1 ∙ (bytes_eq-Decides r.0 (codes "main")).0 named) in
        let many : length g.params ≡ count o.equation.pats = o.params in
        absurd (omega (arith, le, many, lt))
    | inr le ↦ no_two (is_named (translated c) (codes "main") g.name) h
        (new_apart c (codes "main") main_apart g.name le)
  ]
  breaks_only_size k at (NoListConstructors h) = absurd
      (sound.unbroken 21 0 refl
      (NoListConstructors
      (λ d. h (
        declared_there (codes "Nil") 0 nil_apart d.0,
        declared_there (codes "Cons") 2 cons_apart d.1,
      ))))
  breaks_only_size k at (TooManyFunctions {f = g} e) =
      let lt = get_within (translated c).functions 4096 g e in
      let w = some_at (equations_as_functions c).functions 4096
      (omega (arith, lt, no_more_functions c)) in
      absurd (sound.unbroken 31 w.0.at refl (TooManyFunctions w.1))
  breaks_only_size k at (TooManyConstructors e) = absurd
      (sound.unbroken k at refl (TooManyConstructors e))
  breaks_only_size k at (TooManyParameters {f = g} i e lt) = let le = few_params i g e
      in absurd (omega (arith, le, lt))
  breaks_only_size k at (TooManyArguments {t = t} {app = app} {inner = inner} f h lt) = let le
      = few_arguments t app inner f h in absurd (omega (arith, le, lt))
  breaks_only_size k at (TooManyFields i e lt) = absurd
      (sound.unbroken k at refl (TooManyFields i e lt))
  breaks_only_size k at (CoreTooLarge lt) = refl
