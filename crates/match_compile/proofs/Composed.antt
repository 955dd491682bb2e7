-- The functions of the program that equations become: their names, their parameters, and where
-- their pieces come from.
use Rattle.std.proofs.Common.{◌≡◌, ℕ, zero, suc, ◌≤◌, Bool, true, false, List, [], ◌∷◌, ◌++◌, length, refl, sym, ap, subst, ◌∙◌, arith, Option, Some, None, ◌⊎◌, inl, inr}
use Rattle.std.specs.Prelude.{◌≢◌, ◌&&◌, nat_le, slice_get, codes, if◌then◌else◌}
use Rattle.std.specs.Str.{bytes_eq}
use Rattle.std.proofs.lemmas.Bool.Decides.{nat_tests}
use Rattle.seq.specs.Lists.{AllOf, In, here, there, numbers_from, or_empty}
use Rattle.seq.proofs.Lists.{length_map, some_is, all_append}
use Rattle.seq.proofs.Counted.{length_numbers}
use Rattle.seq.proofs.Order.{eq_false}
use Rattle.seq.proofs.Member.{none_in, in_left, in_right}
use Rattle.core_reader.specs.declared.syntax.Binder.{Binder}
use Rattle.core_reader.specs.declared.syntax.Pattern.{Pattern}
use Rattle.core_reader.specs.Tree.{Term, Terms, NoTerms, AndTerm, Application, Expr, App, Alts, NoAlts, AndAlt, Function, Program}
use Rattle.core_reader.specs.Tree as core
use Rattle.arity_check.specs.declared.normal.PrimOp.{PrimOp}
use Rattle.arity_check.specs.declared.meaning.Meaning.TheVariants as stands
use Rattle.arity_check.specs.Scope.{Scope, is_named, primitives, primitive_from}
use Rattle.arity_check.specs.Patterns.{alt_at}
use Rattle.arity_check.specs.Standing as standing
use Rattle.arity_check.specs.Standing.{IsTermAmong, First, Later, HeadIsApplied, AsName, AsCon, InArgument, Contains, Whole, InItsHead, InItsArgs}
use Rattle.arity_check.specs.Pieces.{FunctionPart, bound_by, within, Has, TheApp, HasAlts, InThis, InLater}
use Rattle.match_compile.specs.Source.{Source}
use Rattle.match_compile.specs.Rules.{text_in, Broken}
use Rattle.match_compile.specs.Sound.{IsSound}
use Rattle.match_compile.specs.Trees.{can_fail}
use Rattle.match_compile.specs.Decisions.{Decision, decisions}
use Rattle.match_compile.specs.Renamed.{renamed_name}
use Rattle.match_compile.specs.Translated.{name_supply_of, is_nameless, all_bind, stays, most_params, with_nameless, nameless, equation_name, place_name, binder, name_or, binders, expr_of, param_stays, with_params, arguments, call, is_called, function_of, next_of, first_of, each_of, others_of, firsts, others, translated}
use Rattle.match_compile.proofs.NamedAs.{named_by, new_named, new_primitive, translated_text, in_at}
use Rattle.match_compile.proofs.Grouped.{Differ, all_are, all_of, function_names, names_append}
use Rattle.match_compile.proofs.Bodies.{local_within, bound_within, found_local, found_global, functions_in, name_other, name_here, Fair, found_fair}
use Rattle.match_compile.proofs.RowPlaces.{NotIn, numbers_differ}
use Rattle.match_compile.proofs.Sown.{Stood, decisions_stood}
use Rattle.match_compile.proofs.Placed.{WasRead, IsPlace, IsGood, good_binders, good_nameless, Known, placed_bound, place_new, bound_name, most_is, stays_all}
use Rattle.match_compile.proofs.Walked.{IsLast, GoodApp, Origin, OfApp, Widens, tree_from}

abbrev tail_of : List Decision → List Decision
tail_of [] = []
tail_of (d ∷ ds) = ds

module _ (c : Source) where
  -- ---- names

  named_each : (ds : List Decision) → AllOf
      (λ (d : Decision). In (equation_name (name_supply_of c) d.number)
      (function_names (each_of (name_supply_of c) ds))) ds
  named_each [] = tt
  named_each (d ∷ ds) = (
    here,
    all_are
        (λ (e : Decision). In (equation_name (name_supply_of c) e.number)
        (function_names (each_of (name_supply_of c) ds)))
        (λ (e : Decision). In (equation_name (name_supply_of c) e.number)
        (function_names (each_of (name_supply_of c) (d ∷ ds)))) (λ e i. there i) ds (named_each ds),
  )

  -- the number of a tree is a name of these
  abbrev IsNumber : List ℕ → Decision → Type 0
  IsNumber names d = In (equation_name (name_supply_of c) d.number) names

  abbrev AreNumbers : List ℕ → List Decision → Type 0
  AreNumbers names ds = AllOf (IsNumber names) (tail_of ds)

  numbers_left : (xs ys : List Function) (ds : List Decision)
      → AllOf (IsNumber (function_names xs)) ds → AllOf (IsNumber (function_names (xs ++ ys))) ds
  numbers_left xs ys ds h = all_are (IsNumber (function_names xs))
      (IsNumber (function_names (xs ++ ys)))
      (λ d i. subst (In (equation_name (name_supply_of c) d.number)) (sym (names_append xs ys))
      (in_left (function_names xs) (function_names ys) i)) ds h

  numbers_right : (xs ys : List Function) (ds : List Decision)
      → AllOf (IsNumber (function_names ys)) ds → AllOf (IsNumber (function_names (xs ++ ys))) ds
  numbers_right xs ys ds h = all_are (IsNumber (function_names ys))
      (IsNumber (function_names (xs ++ ys)))
      (λ d i. subst (In (equation_name (name_supply_of c) d.number)) (sym (names_append xs ys))
      (in_right (function_names xs) (function_names ys) i)) ds h

  named_first : (ds : List Decision) (rest : List Function)
      → AreNumbers (function_names (others_of (name_supply_of c) ds ++ rest)) ds
  named_first [] rest = tt
  named_first (d ∷ ds) rest = numbers_left (each_of (name_supply_of c) ds) rest ds (named_each ds)

  named_others : (fs : List (List Decision)) → AllOf
      (AreNumbers (function_names (others (name_supply_of c) fs))) fs
  named_others [] = tt
  named_others (ds ∷ fs) = (
    named_first ds (others (name_supply_of c) fs),
    all_are (AreNumbers (function_names (others (name_supply_of c) fs)))
        (AreNumbers
        (function_names (others_of (name_supply_of c) ds ++ others (name_supply_of c) fs)))
        (λ es h. numbers_right (others_of (name_supply_of c) ds) (others (name_supply_of c) fs)
        (tail_of es) h) fs (named_others fs),
  )

  -- ---- each function is that of a tree

  abbrev pub FitsNext : Decision → Option ℕ → Type 0
  FitsNext d None = Unit {0}
  FitsNext d (Some f) = (d.params ≤ 12) × In f (function_names (translated c).functions)
      × (length (with_nameless c.names) ≤ f)

  pub record IsMade (g : Function) : Type 0 where
    pub name : ℕ
    pub decision : Decision
    pub next : Option ℕ
    pub is : g ≡ function_of (name_supply_of c) name decision next
    pub stood : Stood c decision
    pub named : (name ≡ decision.name) ⊎ (length (with_nameless c.names) ≤ name)
    pub fits : FitsNext decision next

  next_fits : (d : Decision) (ds : List Decision) → AllOf
      (IsNumber (function_names (translated c).functions)) ds
      → FitsNext d (next_of (name_supply_of c) d ds)
  next_fits d [] h = tt
  next_fits d (e ∷ ds) h = go (nat_le d.params 12) refl
    where
      go : (b : Bool) → nat_le d.params 12 ≡ b → FitsNext d
          (if b then Some (equation_name (name_supply_of c) e.number) else None)
      go true q = (grind (arith, nat_tests), h.0, omega arith)
      go false q = tt

  each_made : (ds : List Decision) → AllOf (Stood c) ds
      → AllOf (IsNumber (function_names (translated c).functions)) ds
      → AllOf IsMade (each_of (name_supply_of c) ds)
  each_made [] s h = tt
  each_made (d ∷ ds) s h = (
    record {
      name = equation_name (name_supply_of c) d.number;
      decision = d;
      next
          = next_of (name_supply_of c) d ds;
      is = refl;
      stood = s.0;
      named = inr (omega arith);
      fits
          = next_fits d ds h.1;
    },
    each_made ds s.1 h.1,
  )

  first_made : (ds : List Decision) → AllOf (Stood c) ds
      → AreNumbers (function_names (translated c).functions) ds
      → AllOf IsMade (first_of (name_supply_of c) ds)
  first_made [] s h = tt
  first_made (d ∷ ds) s h = (
    record {
      name = d.name;
      decision = d;
      next = next_of (name_supply_of c) d ds;
      is
          = refl;
      stood = s.0;
      named = inl refl;
      fits = next_fits d ds h;
    },
    tt,
  )

  others_made : (ds : List Decision) → AllOf (Stood c) ds
      → AreNumbers (function_names (translated c).functions) ds
      → AllOf IsMade (others_of (name_supply_of c) ds)
  others_made [] s h = tt
  others_made (d ∷ ds) s h = each_made ds s.1 h

  all_firsts : (fs : List (List Decision)) → AllOf (AllOf (Stood c)) fs
      → AllOf (AreNumbers (function_names (translated c).functions)) fs
      → AllOf IsMade (firsts (name_supply_of c) fs)
  all_firsts [] s h = tt
  all_firsts (ds ∷ fs) s h = all_append IsMade (first_of (name_supply_of c) ds)
      (firsts (name_supply_of c) fs) (first_made ds s.0 h.0) (all_firsts fs s.1 h.1)

  all_others : (fs : List (List Decision)) → AllOf (AllOf (Stood c)) fs
      → AllOf (AreNumbers (function_names (translated c).functions)) fs
      → AllOf IsMade (others (name_supply_of c) fs)
  all_others [] s h = tt
  all_others (ds ∷ fs) s h = all_append IsMade (others_of (name_supply_of c) ds)
      (others (name_supply_of c) fs) (others_made ds s.0 h.0) (all_others fs s.1 h.1)

  pub all_made : ((k at : ℕ) → Broken c k at → ⊥) → AllOf IsMade (translated c).functions
  all_made unbroken =
      let fs : List (List Decision) = decisions c in
      let stood = decisions_stood c unbroken in
      let named = all_are (AreNumbers (function_names (others (name_supply_of c) fs)))
      (AreNumbers (function_names (translated c).functions))
      (λ ds h. numbers_right (firsts (name_supply_of c) fs) (others (name_supply_of c) fs)
      (tail_of ds) h) fs (named_others fs) in
      all_append IsMade (firsts (name_supply_of c) fs) (others (name_supply_of c) fs)
      (all_firsts fs stood named) (all_others fs stood named)

-- ---- parameters and bodies

module _ (c : Source) (unbroken : (k at : ℕ) → Broken c k at → ⊥) (read : WasRead c) where
  pub params_most : (d : Decision) → Stood c d → d.params ≤ most_params c.equations
  params_most d s = let is = s.params in let le = most_is c.equations s.first s.is_in
      in omega (arith, is, le)

  module _ (d : Decision) (s : Stood c d) where
    abbrev most : d.params ≤ most_params c.equations
    most = params_most d s

    abbrev columns : List ℕ
    columns = numbers_from 0 d.params

    params_old : (called : Bool) (ps : List ℕ) (places : Scope) (p : ℕ) → NotIn p ps
        → renamed_name (with_params (name_supply_of c) called d ps places) p ≡ renamed_name places p
    params_old called [] places p n = refl
    params_old called (q ∷ ps) places p n =
        let y : ℕ = name_or (name_supply_of c) d.at d.params
        (param_stays (name_supply_of c) called (stays q d.tree)) q in
        params_old called ps ((q, y) ∷ places) p (λ i. n (there i)) ∙ name_other q y places p
        (eq_false q p (λ e. n (subst (λ z. In z (q ∷ ps)) e here)))

    params_new : (called : Bool) (ps : List ℕ) (places : Scope) (p : ℕ) → Differ ps → In p ps
        → renamed_name (with_params (name_supply_of c) called d ps places) p ≡ name_or
        (name_supply_of c) d.at d.params (param_stays (name_supply_of c) called (stays p d.tree)) p
    params_new called [] places p e i = none_in i
    params_new called (q ∷ ps) places p e here =
        let y : ℕ = name_or (name_supply_of c) d.at d.params
        (param_stays (name_supply_of c) called (stays p d.tree)) p in
        params_old called ps ((p, y) ∷ places) p (λ i. all_of (λ z. z ≢ p) ps e.0 i refl) ∙
        name_here p y places
    params_new called (q ∷ ps) places p e (there i)
        = params_new called ps
        ((
          q,
          name_or (name_supply_of c) d.at d.params
              (param_stays (name_supply_of c) called (stays q d.tree)) q,
        ) ∷ places) p e.1 i

    abbrev Binds : ℕ → ℕ → Bool
    Binds p x = all_bind p x d.tree

    -- what the name of a column is
    pub record IsColumn (called : Bool) (p y : ℕ) : Type 0 where
      pub place : IsPlace c unbroken read d.params most Binds p y
      pub named : called ≡ true → is_named (translated c) (codes "_") y ≡ false

    column_is : (called : Bool) (p : ℕ) → IsColumn called p
        (name_or (name_supply_of c) d.at d.params
        (param_stays (name_supply_of c) called (stays p d.tree)) p)
    column_is called p = go (stays p d.tree) refl
      where
        new : IsColumn called p (place_name (name_supply_of c) d.params p)
        new = record {
          place = inl refl;
          named = λ e. new_named c (place_name (name_supply_of c) d.params p)
              (place_new c unbroken read d.params p);
        }

        go : (o : Option ℕ) → stays p d.tree ≡ o → IsColumn called p
            (name_or (name_supply_of c) d.at d.params (param_stays (name_supply_of c) called o) p)
        go None q = new
        go (Some x) q = by (is_nameless (text_in c.names x)) refl called refl
          where
            binds : all_bind p x d.tree ≡ true
            binds = stays_all p d.tree x q

            text : bytes_eq (text_in c.names x) (codes "_") ≡ is_named (translated c) (codes "_") x
            text =
                let b = bound_name c unbroken read d.free columns d.tree s.fine p x binds in
                let r = read.patterns b.0 b.1 b.2.0 b.2.1 in
                let at : slice_get c.names x ≡ Some r.0 = ap (slice_get c.names) (sym b.2.2) ∙ r.1
                in
                ap (λ o. bytes_eq (or_empty o) (codes "_")) at ∙ sym
                (named_by c (translated c) (codes "_") r.0 x (translated_text c x at))

            by : (t : Bool) → is_nameless (text_in c.names x) ≡ t → (a : Bool) → called ≡ a
                → IsColumn called p
                (name_or (name_supply_of c) d.at d.params (if a && t then None else Some x) p)
            by true h true k = new
            by true h false k = record
                { place = inr binds; named = λ e. absurd (no_both (sym k ∙ e)) }
              where
                no_both : false ≡ true → ⊥
                no_both e = cc
            by false h true k = record { place = inr binds; named = λ e. sym text ∙ h }
            by false h false k = record { place = inr binds; named = λ e. sym text ∙ h }

    module _ (called : Bool) where
      abbrev pub scope_of : Scope
      scope_of = with_params (name_supply_of c) called d columns []

      abbrev pub params_of : List Binder
      params_of = binders (name_supply_of c) d.at d.params scope_of columns

      pub column : (p : ℕ) → In p columns → IsColumn called p (renamed_name scope_of p)
      column p i = subst (IsColumn called p)
          (sym (params_new called columns [] p (numbers_differ 0 d.params) i)) (column_is called p)

      pub known_params : Known c unbroken read d.params most columns Binds scope_of
          (within (translated c) params_of [])
      known_params p i = placed_bound c unbroken read d.params most Binds d.at scope_of columns [] p
          i (column p i).place

      pub params_length : length params_of ≡ d.params
      params_length = length_map
          (λ p. binder (name_supply_of c) d.at d.params (renamed_name scope_of p)) columns ∙
          length_numbers 0 d.params

      -- where a call takes them none is `_`
      pub named_params : called ≡ true → (b : Binder) → In b params_of
          → is_named (translated c) (codes "_") b.name.0 ≡ false
      named_params e b i = go columns (λ p j. j) i
        where
          go : (ps : List ℕ) → ((p : ℕ) → In p ps → In p columns) → {x : Binder}
              → In x (binders (name_supply_of c) d.at d.params scope_of ps)
              → is_named (translated c) (codes "_") x.name.0 ≡ false
          go [] f i = none_in i
          go (p ∷ ps) f here = (column p (f p here)).named e
          go (p ∷ ps) f (there i) = go ps (λ q j. f q (there j)) i

    pub no_primitive : (qs : List (List ℕ × PrimOp)) (y : ℕ)
        → ((n : ℕ) (q : List ℕ × PrimOp) → slice_get qs n ≡ Some q
        → is_named (translated c) q.0 y ≡ true → ⊥)
        → primitive_from (translated c) qs y ≡ stands.Unbound
    no_primitive [] y h = refl
    no_primitive (q ∷ qs) y h = go (is_named (translated c) q.0 y) refl
        (no_primitive qs y (λ n p e. h (suc n) p e))
      where
        go : (b : Bool) → is_named (translated c) q.0 y ≡ b
            → primitive_from (translated c) qs y ≡ stands.Unbound
            → (if b then stands.Primitive q.1 else primitive_from (translated c) qs y) ≡
            stands.Unbound
        go true e f = absurd (h 0 q refl e)
        go false e f = f

-- ---- the call of the function behind

module _ (c : Source) (unbroken : (k at : ℕ) → Broken c k at → ⊥) (sound : IsSound c)
    (read : WasRead c) where
  module _ (d : Decision) (s : Stood c d) where
    abbrev bound : d.params ≤ most_params c.equations
    bound = params_most c unbroken read d s

    abbrev places : List ℕ
    places = numbers_from 0 d.params

    abbrev scoped : Bool → Scope
    scoped = scope_of c unbroken read d s

    abbrev given : Bool → List Binder
    given = params_of c unbroken read d s

    pub good_params : (called : Bool) → IsGood c unbroken sound read d.params bound (given called)
    good_params called = good_binders c unbroken sound read d.params bound d.at d.free places d.tree
        (scoped called) places s.fine (numbers_differ 0 d.params)
        (λ p i. (column c unbroken read d s called p i).place)

    argument_is : (at : ℕ) (bs : List Binder) {a : Term}
        → IsTermAmong a (arguments (name_supply_of c) at bs) → (b : Binder) × In b bs
        × (a ≡ core.Name b.name.0 at)
    argument_is at [] h = elim h [ ]
    argument_is at (b ∷ bs) First = (b, here, refl)
    argument_is at (b ∷ bs) (Later h) = let r = argument_is at bs h in (r.0, there r.1, r.2)

    arguments_count : (at : ℕ) (bs : List Binder) → standing.count
        (arguments (name_supply_of c) at bs) ≡ length bs
    arguments_count at [] = refl
    arguments_count at (b ∷ bs) = omega (arith, arguments_count at bs)

    -- a parameter as an argument
    param_fair : (now : Scope) → Widens c unbroken sound read d.at d.params bound
        (within (translated c) (given true) []) now → (b : Binder) → In b (given true) → (k : ℕ)
        → Fair c now b.name.0 k
    param_fair now w b i k =
        let named = named_params c unbroken read d s true refl b i in
        let at = in_at (given true) i in
        let g = good_params true in
        found_fair c now b.name.0 k named
        (no_primitive c unbroken read d s primitives b.name.0
        (λ n q e h. g.plain at.0 n b q at.1 e h))
        (found_local (translated c) now b.name.0
        (w b.name.0 (bound_within (translated c) (given true) [] b i named)))

    call_good : (f : ℕ) → FitsNext c d (Some f) → (now : Scope)
        → Widens c unbroken sound read d.at d.params bound (within (translated c) (given true) [])
        now
        → GoodApp c unbroken sound read now
        (record {
          head = core.Name f d.at;
          args
              = arguments (name_supply_of c) d.at (given true);
        })
    call_good f fits now w = record {
      names = λ y at k h. name_fair y at k h;
      constructors = λ y at k h. none y at k h;
      short = λ inner h. few inner h;
    }
      where
        args : Terms
        args = arguments (name_supply_of c) d.at (given true)

        alone : {a : Term} (b : Binder) → a ≡ core.Name b.name.0 d.at → {y at k : ℕ}
            → HeadIsApplied a NoTerms (core.Name y at) k → y ≡ b.name.0
        alone b e st = by st e
          where
            by : {a : Term} {y at k : ℕ} → HeadIsApplied a NoTerms (core.Name y at) k
                → a ≡ core.Name b.name.0 d.at → y ≡ b.name.0
            by AsName e = cc
            by (standing.LoneHead st) e = absurd cc
            by (standing.LoneBracket st) e = absurd cc
            by (InArgument a st) e = elim a [ ]

        name_fair : (y at k : ℕ) → HeadIsApplied (core.Name f d.at) args (core.Name y at) k
            → Fair c now y k
        name_fair y at k AsName = found_fair c now f k (new_named c f fits.2)
            (new_primitive c f fits.2)
            (found_global (translated c) now f
            (functions_in (translated c) (translated c).functions 0 f fits.1))
        name_fair y at k (InArgument a st) =
            let r = argument_is d.at (given true) a in
            subst (λ z. Fair c now z k) (sym (alone r.0 r.2 st)) (param_fair now w r.0 r.1 k)

        none_in_name : {a : Term} {y at k : ℕ} (b : Binder)
            → HeadIsApplied a NoTerms (core.Con y at) k → a ≡ core.Name b.name.0 d.at → ⊥
        none_in_name b AsCon e = cc
        none_in_name b (standing.LoneHead st) e = cc
        none_in_name b (standing.LoneBracket st) e = cc
        none_in_name b (InArgument a st) e = elim a [ ]

        none : (y at k : ℕ) → HeadIsApplied (core.Name f d.at) args (core.Con y at) k → ⊥
        none y at k (InArgument a st) = let r = argument_is d.at (given true) a
            in none_in_name r.0 st r.2

        few : (inner : Application) → Contains (record { head = core.Name f d.at; args = args })
            inner → standing.count inner.args ≤ 12
        few inner Whole = let le : d.params ≤ 12 = fits.0
            in omega (
              arith,
              le,
              arguments_count d.at (given true),
              params_length c unbroken read d s true,
            )
        few inner (InItsHead q h) = absurd cc
        few inner (InItsArgs a h) = let r = argument_is d.at (given true) a
            in absurd (no_bracket r.2)
          where
            no_bracket : {h : Term} {as' : Terms} {at y b : ℕ}
                → core.Bracket h as' at ≡ core.Name y b → ⊥
            no_bracket e = cc

    -- ---- the whole function

    call_last : (next : Option ℕ) (bs : List Binder) → IsLast (call (name_supply_of c) d.at next bs)
    call_last None bs = tt
    call_last (Some f) bs = tt

    call_lists : (next : Option ℕ) (bs : List Binder) (i : ℕ) (p : Pattern)
        → alt_at (call (name_supply_of c) d.at next bs) i ≡ Some p
        → IsGood c unbroken sound read d.params bound (bound_by p)
    call_lists None bs i p e = absurd cc
    call_lists (Some f) bs zero p e = subst
        (λ q. IsGood c unbroken sound read d.params bound (bound_by q)) (some_is e)
        (good_nameless c unbroken sound read d.params bound d.at)
    call_lists (Some f) bs (suc i) p e = absurd cc

    call_from : (next : Option ℕ) → FitsNext c d next → (inner : Scope)
        → Widens c unbroken sound read d.at d.params bound
        (within (translated c) (given (is_called (name_supply_of c) d next)) []) inner
        → can_fail d.tree ≡ true → (now : Scope) (q : FunctionPart)
        → HasAlts (translated c) inner
        (call (name_supply_of c) d.at next (given (is_called (name_supply_of c) d next))) now q
        → Origin c unbroken sound read d.at d.params bound now q
    call_from None fits inner w e now q h = elim h [ ]
    call_from (Some f) fits inner w e now q h =
        by (subst
        (λ b. Widens c unbroken sound read d.at d.params bound
        (within (translated c) (given b) []) inner) e w)
        (subst (λ b. HasAlts (translated c) inner
        (call (name_supply_of c) d.at (Some f) (given b)) now q) e h)
      where
        by : {now : Scope} {q : FunctionPart} → Widens c unbroken sound read d.at d.params bound
            (within (translated c) (given true) []) inner
            → HasAlts (translated c) inner (call (name_supply_of c) d.at (Some f) (given true)) now
            q → Origin c unbroken sound read d.at d.params bound now q
        by w (InThis TheApp) = OfApp
            (call_good f fits
            (within (translated c)
            (binder (name_supply_of c) d.at 0 (nameless (name_supply_of c)) ∷ []) inner)
            (λ y l. local_within (translated c)
            (binder (name_supply_of c) d.at 0 (nameless (name_supply_of c)) ∷ []) inner y (w y l)))
        by w (InLater h) = elim h [ ]

    pub body_from : (next : Option ℕ) → FitsNext c d next → {now : Scope} {q : FunctionPart}
        → Has (translated c)
        (within (translated c) (given (is_called (name_supply_of c) d next)) [])
        (expr_of (name_supply_of c) d.at d.params
        (call (name_supply_of c) d.at next (given (is_called (name_supply_of c) d next)))
        (scoped (is_called (name_supply_of c) d next)) d.tree) now q
        → Origin c unbroken sound read d.at d.params bound now q
    body_from next fits h =
        let called : Bool = is_called (name_supply_of c) d next in
        tree_from c unbroken sound read d.at d.params bound
        (call (name_supply_of c) d.at next (given called)) (call_last next (given called))
        (call_lists next (given called)) d.tree (within (translated c) (given called) [])
        (call_from next fits)
        d.free places d.tree (scoped called) (within (translated c) (given called) []) s.fine
        (known_params c unbroken read d s called) (λ y l. l) (λ e. e) h
