-- The program that equations become puts out what they do: its functions serve theirs.
use Rattle.std.proofs.Common.{◌≡◌, ℕ, zero, suc, ◌+◌, ◌<◌, ◌≤◌, Bool, true, false, cond, List, [], ◌∷◌, ◌++◌, map, length, refl, sym, ap, subst, ◌∙◌, arith, Option, Some, None}
use Rattle.std.specs.Prelude.{◌==◌, ◌||◌, slice_get, codes}
use Rattle.std.specs.List.{position, range_with_len}
use Rattle.seq.specs.Lists.{AllOf, In, here, there, numbers_from}
use Rattle.seq.proofs.Lists.{some_is, map_get, length_map, all_append}
use Rattle.seq.proofs.Counted.{length_numbers}
use Rattle.seq.proofs.Order.{eq_false}
use Rattle.core_reader.specs.declared.syntax.Binder.{Binder}
use Rattle.core_reader.specs.Tree.{Expr, Data, Function, Program}
use Rattle.core_reader.specs.Readable.{IsReadable}
use Rattle.arity_check.specs.declared.meaning.Meaning.TheVariants as stands
use Rattle.arity_check.specs.Accepted as check
use Rattle.arity_check.specs.Scope.{Scope, is_named, function_from, binds_all}
use Rattle.arity_check.specs.Program as normal
use Rattle.arity_check.specs.Normal.{Pairwise, IsNormal, IsFunction, IsNormalForm}
use Rattle.core_meaning.specs.Evaluation as core
use Rattle.core_meaning.specs.Evaluation.{params, nil, cons}
use Rattle.core_meaning.specs.Told.{core_program_meaning}
use Rattle.core_meaning.specs.WellFormed.{WellFormed}
use Rattle.core_meaning.proofs.Valid.{valid_is_well_formed, different_places}
use Rattle.match_compile.specs.Source.{NoPats, AndPat, Equation, Source}
use Rattle.match_compile.specs.Parts.{count, names_of, tests_of}
use Rattle.match_compile.specs.Rules.{Broken}
use Rattle.match_compile.specs.Sizes.{functions, rows, most_equations, is_simple, is_plain}
use Rattle.match_compile.specs.Trees.{pending_patterns_at, places_from}
use Rattle.match_compile.specs.Renamed.{renamed_name}
use Rattle.match_compile.specs.Decisions.{Decision, row_of, begun, decisions_from, all_decisions, decisions, DecideAllEquations}
use Rattle.match_compile.specs.Translated.{name_supply_of, is_called, equation_name, with_nameless, binder, with_params, function_of, next_of, first_of, each_of, others_of, firsts, others, translated}
use Rattle.match_compile.specs.Form.{Row, Rows, Equations, head_of, program_of_heads, IsRow, AreRows, IsFormOf}
use Rattle.match_compile.specs.ByEquations.{without_bodies, as_function, equations_meaning}
use Rattle.match_compile.specs.Within.{Within, SameWithinSameUnits}
use Rattle.match_compile.specs.Jobs.{tasks_of}
use Rattle.match_compile.specs.Decides as decides
use Rattle.match_compile.specs.Decides.{way, settled, Serves, fields, IsFun, RowFits, ServedBelow, AreServed}
use Rattle.match_compile.specs.Laws.{SourceKeepsMeaning}
use Rattle.match_compile.proofs.NamedAs.{main_apart, new_apart}
use Rattle.match_compile.proofs.Grouped.{all_are, all_in, all_of, rows_all, functions_all, OneName, functions_one}
use Rattle.match_compile.proofs.Decided.{trees_stand}
use Rattle.match_compile.proofs.RowPlaces.{names_at, numbers_differ}
use Rattle.match_compile.proofs.Sown.{Takes, takes_all}
use Rattle.match_compile.proofs.Placed.{WasRead}
use Rattle.match_compile.proofs.Single.{HasFirst, functions_first, whole}
use Rattle.match_compile.proofs.Whole.{served_within, served_in_step}
use Rattle.match_compile.proofs.Grounds as grounds
use Rattle.match_compile.proofs.Grounds.{SameHead, NoHead, OneHead, same_head, first_decided, as_many_long, rows_within}
use Rattle.match_compile.proofs.Aligned.{SameParams, SomeParams, Aligned, same_heap, same_params, same_name}
use Rattle.match_compile.proofs.InTable.{EquationFits, was_read, equations_fit, constructors_fit}
use Rattle.match_compile.proofs.Rowed.{JobsAs, settled_as, fields_as, fields_fit, fields_used}
use Rattle.match_compile.proofs.Coded.{InScope, local_of, Stands}
use Rattle.match_compile.proofs.Chained.{parts_of, chained_serves}
use Rattle.match_compile.proofs.Scoped.{zipped, zipped_new, zipped_locals, each_new}
use Rattle.match_compile.proofs.Tabled.{pair_get, pair_back, get_position, one_name, headed_constructors, same_main}
use Rattle.match_compile.proofs.Linked.{Body, FunctionMade, EachMade, decided_params}
use Rattle.match_compile.proofs.Formed.{IsHead, named_head, head_at, RowOk, FunctionRows, AllRows, each_function, text_rows}

-- ---- functions of further trees

-- a function without patterns has one tree
no_tests : (e : Equation) → count e.pats ≡ 0 → tests_of e.pats ≡ 0
no_tests e h = by e.pats h
  where
    by : (ps : _) → count ps ≡ 0 → tests_of ps ≡ 0
    by NoPats h = refl
    by (AndPat p ps) h = absurd (omega (arith, h))

module _ (c : Source) where
  params_long : (name : ℕ) (d : Decision) (next : Option ℕ)
      → length (function_of (name_supply_of c) name d next).params ≡ d.params
  params_long name d next =
      let places : Scope = with_params (name_supply_of c) (is_called (name_supply_of c) d next) d
      (numbers_from 0 d.params) [] in
      length_map (λ p. binder (name_supply_of c) d.at d.params (renamed_name places p))
      (numbers_from 0 d.params) ∙ length_numbers 0 d.params

  each_some : (ds : List Decision) → AllOf (λ (d : Decision). 0 < d.params) ds
      → AllOf (λ (f : Function). 0 < length f.params) (each_of (name_supply_of c) ds)
  each_some [] h = tt
  each_some (d ∷ ds) h =
      let long = params_long (equation_name (name_supply_of c) d.number) d
      (next_of (name_supply_of c) d ds) in
      let some = h.0 in
      (omega (arith, long, some), each_some ds h.1)

  each_named : (ds : List Decision) → AllOf
      (λ (f : Function). length (with_nameless c.names) ≤ f.name) (each_of (name_supply_of c) ds)
  each_named [] = tt
  each_named (d ∷ ds) = (omega arith, each_named ds)

  others_named : (fs : List (List Decision)) → AllOf
      (λ (f : Function). length (with_nameless c.names) ≤ f.name) (others (name_supply_of c) fs)
  others_named [] = tt
  others_named ([] ∷ fs) = others_named fs
  others_named ((d ∷ ds) ∷ fs) = all_append
      (λ (f : Function). length (with_nameless c.names) ≤ f.name) (each_of (name_supply_of c) ds)
      (others (name_supply_of c) fs) (each_named ds) (others_named fs)

  no_main : AllOf (λ (f : Function). is_named (translated c) (codes "main") f.name ≡ false)
      (others (name_supply_of c) (decisions c))
  no_main =
      all_are (λ (f : Function). length (with_nameless c.names) ≤ f.name)
      (λ (f : Function). is_named (translated c) (codes "main") f.name ≡ false)
      (λ f le. new_apart c (codes "main") main_apart f.name le)
      (others (name_supply_of c) (decisions c)) (others_named (decisions c))

  module _ (unbroken : (k at : ℕ) → Broken c k at → ⊥) where
    -- the functions of all trees but the first have parameters
    later_some : (k : ℕ) (e : Equation) (es : List Equation)
        → AllOf (λ e. In e c.equations) (e ∷ es) → OneName (e ∷ es)
        → AllOf (λ (f : Function). 0 < length f.params)
        (others_of (name_supply_of c) (decisions_from k (rows (e ∷ es))))
    later_some k e es ins one = by (count e.pats) refl
      where
        counted : (es : List Equation) → AllOf (Takes c unbroken (count e.pats)) es
            → AllOf (λ (g : Equation). count g.pats ≡ count e.pats) (rows es)
        counted [] h = tt
        counted (g ∷ es) h = (h.0.1, go (tests_of g.pats == 0) (counted es h.1))
          where
            go : (b : Bool) → AllOf (λ (g : Equation). count g.pats ≡ count e.pats) (rows es)
                → AllOf (λ (g : Equation). count g.pats ≡ count e.pats) (cond b [] (rows es))
            go true k = tt
            go false k = k

        more_params : (ds : List Decision) (n : ℕ) → AllOf (λ (d : Decision). d.params ≡ suc n) ds
            → AllOf (λ (d : Decision). 0 < d.params) ds
        more_params [] n h = tt
        more_params (d ∷ ds) n h = let q = h.0 in (omega (arith, q), more_params ds n h.1)

        tail_some : (n : ℕ) (ds : List Decision) → AllOf (λ (d : Decision). d.params ≡ suc n) ds
            → AllOf (λ (f : Function). 0 < length f.params) (others_of (name_supply_of c) ds)
        tail_some n [] h = tt
        tail_some n (d ∷ ds) h = each_some ds (more_params ds n h.1)

        by : (n : ℕ) → count e.pats ≡ n → AllOf (λ (f : Function). 0 < length f.params)
            (others_of (name_supply_of c) (decisions_from k (rows (e ∷ es))))
        by zero h = ap_none (tests_of e.pats == 0) (ap (λ n. n == 0) (no_tests e h))
          where
            ap_none : (b : Bool) → b ≡ true → AllOf (λ (f : Function). 0 < length f.params)
                (others_of (name_supply_of c) (decisions_from k (e ∷ cond b [] (rows es))))
            ap_none true i = tt
            ap_none false i = absurd cc
        by (suc n) h =
            let takes = takes_all c unbroken e es ins one in
            let counts = go (tests_of e.pats == 0) (counted es takes.1) in
            tail_some n (decisions_from k (rows (e ∷ es)))
            (all_are (λ (d : Decision). d.params ≡ count e.pats)
            (λ (d : Decision). d.params ≡ suc n) (λ d q. q ∙ h)
            (decisions_from k (rows (e ∷ es)))
            (decided_params (count e.pats) (begun k e) (suc k)
            (cond (tests_of e.pats == 0) [] (rows es)) refl counts))
          where
            go : (b : Bool) → AllOf (λ (g : Equation). count g.pats ≡ count e.pats) (rows es)
                → AllOf (λ (g : Equation). count g.pats ≡ count e.pats) (cond b [] (rows es))
            go true k = tt
            go false k = k

    others_some : (fs : List (List Equation)) (k : ℕ) → AllOf (AllOf (λ e. In e c.equations)) fs
        → AllOf OneName fs → AllOf (λ (f : Function). 0 < length f.params)
        (others (name_supply_of c) (all_decisions k fs))
    others_some [] k ins one = tt
    others_some ([] ∷ fs) k ins one = others_some fs (k + 0) ins.1 one.1
    others_some ((e ∷ es) ∷ fs) k ins one =
        all_append (λ (f : Function). 0 < length f.params)
        (others_of (name_supply_of c) (decisions_from k (rows (e ∷ es))))
        (others (name_supply_of c) (all_decisions (k + length (e ∷ es)) fs))
        (later_some k e es ins.0 one.0) (others_some fs (k + length (e ∷ es)) ins.1 one.1)

-- ---- functions that are aligned

some_params : (p : Program) (fs : List Function) (gs : List normal.Function)
    → Pairwise (IsFunction p) fs gs → AllOf (λ (f : Function). 0 < length f.params) fs
    → SomeParams gs
some_params p [] [] h s = tt
some_params p [] (g ∷ gs) h s = absurd h
some_params p (f ∷ fs) [] h s = absurd h
some_params p (f ∷ fs) (g ∷ gs) h s = let e = h.0.params in let lt = s.0
    in (eq_false g.params 0 (λ z. omega (arith, e, lt, z)), some_params p fs gs h.1 s.1)

abbrev first_long : List Function → ℕ
first_long [] = 0
first_long (f ∷ fs) = length f.params

module _ (c : Source) (many : ℕ → ℕ) where
  firsts_params : (fs : List (List Equation)) (k : ℕ) (hs : List normal.Function) (funs : List Rows)
      → AllOf HasFirst fs → Pairwise (IsFunction (translated c))
      (firsts (name_supply_of c) (all_decisions k fs)) hs → Pairwise (FunctionRows c many) fs funs
      → SameParams hs (map as_function funs)
  firsts_params [] k [] [] some h g = tt
  firsts_params [] k (x ∷ hs) funs some h g = absurd h
  firsts_params [] k hs (r ∷ funs) some h g = absurd g
  firsts_params ([] ∷ fs) k hs funs some h g = absurd some.0
  firsts_params ((e ∷ es) ∷ fs) k hs [] some h g = absurd g
  firsts_params ((e ∷ es) ∷ fs) k hs (r ∷ funs) some h g =
      one (head_of (e ∷ es)) (first_of (name_supply_of c) (decisions_from k (rows (e ∷ es))))
      (same_head c k (e ∷ es)) refl hs h
      (λ hs h. firsts_params fs (k + length (e ∷ es)) hs funs some.1 h g.1)
    where
      one : (xs ys : List Function) → SameHead xs ys → head_of (e ∷ es) ≡ xs
          → (hs : List normal.Function) → Pairwise (IsFunction (translated c))
          (ys ++ firsts (name_supply_of c) (all_decisions (k + length (e ∷ es)) fs)) hs
          → ((hs : List normal.Function) → Pairwise (IsFunction (translated c))
          (firsts (name_supply_of c) (all_decisions (k + length (e ∷ es)) fs)) hs
          → SameParams hs (map as_function funs)) → SameParams hs (map as_function (r ∷ funs))
      one xs ys NoHead i hs h ih = absurd cc
      one xs ys (OneHead {f = f} {g = x} n l) i [] h ih = absurd h
      one xs ys (OneHead {f = f} {g = x} n l) i (y ∷ hs) h ih =
          let first : length f.params ≡ count e.pats
          = ap first_long (sym i) ∙ as_many_long
          (record { name = record { 0 = e.name }; at = e.at }) e.pats in
          (h.0.params ∙ sym l ∙ first ∙ sym g.0.are.head.1, ih hs h.1)

-- ---- the normal form of equations, and what serves it

module _ (c : Source) (unbroken : (k at : ℕ) → Broken c k at → ⊥) (read : WasRead c)
    (fits : AllOf (EquationFits (length c.names)) c.equations)
    (low : AllOf (λ (d : Data). d.name < length c.names) c.constructors)
    (p : normal.Program) (nf : IsNormalForm (translated c) p)
    (whole_out : check.BreaksNoRule (translated c)) (readable : IsReadable (translated c)) where
  pub well : WellFormed p
  well = valid_is_well_formed (translated c) p nf whole_out
      (different_places (translated c).names readable.different)

  abbrev many : ℕ → ℕ
  many n = decides.fields_in (slice_get p.cons n)

  abbrev all : AllRows c many (functions c.equations)
  all = text_rows c unbroken read fits whole_out p nf well.bodies

  abbrev pub form : Equations
  form = record { cons = p.cons; funs = all.funs; main = p.main }

  main_is : position (λ (f : Function). is_named (program_of_heads c) (codes "main") f.name)
      (program_of_heads c).functions ≡ Some p.main
  main_is =
      sym (same_main c (others (name_supply_of c) (decisions c))
      (functions_all (λ (e : Equation). e.name < length c.names) c.equations
      (all_are (EquationFits (length c.names)) (λ (e : Equation). e.name < length c.names)
      (λ e h. h.name) c.equations fits)) (no_main c))
      ∙ nf.main

  rows_are : (fs : List (List Equation)) (funs : List Rows) → Pairwise (FunctionRows c many) fs funs
      → Pairwise (AreRows c) fs funs
  rows_are [] [] h = tt
  rows_are [] (r ∷ funs) h = absurd h
  rows_are (f ∷ fs) [] h = absurd h
  rows_are (f ∷ fs) (r ∷ funs) h = (h.0.are, rows_are fs funs h.1)

  pub is_form : IsFormOf c form
  is_form = record {
    cons = headed_constructors c p.cons nf.cons low;
    funs
        = rows_are (functions c.equations) all.funs all.are;
    main = main_is;
  }

  -- ---- numbers of parameters

  aligned : Aligned p (without_bodies form)
  aligned =
      let fs : List Function = firsts (name_supply_of c) (decisions c) in
      let gs : List Function = others (name_supply_of c) (decisions c) in
      let q = parts_of (IsFunction (translated c)) fs gs p.funs nf.funs in
      record {
        firsts = q.first;
        more = q.rest;
        are = q.is;
        same = firsts_params c many (functions c.equations) 0 q.first all.funs
            (functions_first c.equations) q.first_are all.are;
        some = some_params (translated c) gs q.rest q.rest_are
            (others_some c unbroken (functions c.equations) 0
            (functions_all (λ e. In e c.equations) c.equations (all_in c.equations))
            (functions_one c.equations));
      }

  rows_function : {f : ℕ} (i : IsFun form f) → slice_get (without_bodies form).funs f ≡ Some
      (as_function i.rows)
  rows_function {f = f} i = map_get as_function all.funs f i.rows i.is

  counted : (j k : ℕ) → IsHead (functions c.equations) j k → IsFun form j
      × (params (without_bodies form) j ≡ k)
  counted j k h =
      let r = pair_get (FunctionRows c many) (functions c.equations) all.funs j (h.first ∷ h.rest)
      all.are h.is in
      let i : IsFun form j = record { rows = r.0; is = r.1 } in
      (i, ap (core.params_of (without_bodies form)) (rows_function i) ∙ r.2.are.head.1 ∙ h.params)

  known : (x : ℕ) → x < length c.names → (g k : ℕ) → function_from (program_of_heads c)
      (program_of_heads c).functions 0 x ≡ stands.Function g k → IsFun form g
      × (params (without_bodies form) g ≡ k)
  known x lt g k e = counted g k (named_head c x g k e)

  abbrev Bodies : Expr → List Binder → normal.Term → Type 0
  Bodies = Body c unbroken read fits whole_out p nf.funs well.bodies (params (without_bodies form))
      (IsFun form) known

  abbrev Made : (k i : ℕ) → Equation → List Equation → Type 0
  Made = FunctionMade c unbroken read fits whole_out p nf.funs well.bodies
      (params (without_bodies form)) (IsFun form) known

  abbrev Each : List (List Equation) → (k i : ℕ) → Type 0
  Each = EachMade c unbroken read fits whole_out p nf.funs well.bodies
      (params (without_bodies form)) (IsFun form) known

  -- ---- each equation and its row

  abbrev RowStands : (width : ℕ) → Equation → Row → Type 0
  RowStands w e g = Stands c Bodies (params (without_bodies form)) many (IsFun form) w None
      (zipped (numbers_from 0 w) 0 []) (row_of e) (settled (way w g))

  row_stands : (e : Equation) (g : Row) → IsRow c e g → RowOk many (count e.pats) g
      → RowStands (count e.pats) e g
  row_stands e g is fine =
      let n : ℕ = count e.pats in
      let places : List ℕ = places_from 0 e.pats in
      let ctx = zipped places 0 [] in
      let names : List ℕ = map (λ (b : Binder). b.name.0) (names_of e.pats) in
      let locals : map (local_of ctx) places ≡ range_with_len 0 n
      = zipped_locals places 0 [] (numbers_differ 0 n) ∙ ap (range_with_len 0)
      (length_numbers 0 n) in
      let body : Bodies e.body (names_of e.pats) g.body = (
        is.after,
        subst
            (λ l. IsNormal (program_of_heads c)
            (binds_all (program_of_heads c) names (range_with_len 0 l) [])
            (length (names_of e.pats))
            e.body g.body is.after) (sym (length_map (λ (b : Binder). b.name.0) (names_of e.pats)))
            is.body,
      ) in
      settled_as c Bodies many (InScope ctx) (local_of ctx) e.body g.body [] []
      (pending_patterns_at places e.pats) (tasks_of (range_with_len 0 n) g.pats)
      (subst (λ w. Bodies e.body w g.body) (sym (names_at places e.pats (length_numbers 0 n)))
      body) refl
      (subst (λ xs. JobsAs c Bodies many (local_of (zipped (places_from 0 e.pats) 0 []))
      (pending_patterns_at places e.pats) (tasks_of xs g.pats)) locals
      (fields_as c Bodies many (local_of ctx) places e.pats g.pats is.pats)) tt
      (fields_used c Bodies many (InScope ctx) places e.pats
      (each_new places (InScope ctx) (λ q i. zipped_new places 0 [] q i)))
      (fields_fit c Bodies many (range_with_len 0 n) g.pats fine.1)

  rows_stand : (w : ℕ) (es : List Equation) (gs : List Row)
      → AllOf (λ (e : Equation). count e.pats ≡ w) es → Pairwise (IsRow c) es gs
      → AllOf (RowOk many w) gs → Pairwise (RowStands w) es gs
  rows_stand w [] [] n h f = tt
  rows_stand w [] (g ∷ gs) n h f = absurd h
  rows_stand w (e ∷ es) [] n h f = absurd h
  rows_stand w (e ∷ es) (g ∷ gs) n h f = (
    subst (λ w. RowStands w e g) n.0 (row_stands e g h.0 (f.0.0 ∙ sym n.0, f.0.1)),
    rows_stand w es gs n.1 h.1 f.1,
  )

  -- ---- each function is served

  record ServedAs (es : List Equation) (r : Rows) (i : ℕ) : Type 0 where
    number : ℕ
    more : ℕ
    trees : suc more ≡ length (decisions_from number (rows es))
    below : more < length (rows es)
    serves : Serves (params (without_bodies form)) (fields form) (IsFun form) p r.params more r.rows
        i

  one_served : (k i : ℕ) (e : Equation) (es : List Equation) (r : Rows)
      → AllOf (λ e. In e c.equations) (e ∷ es) → OneName (e ∷ es) → Made k i e es
      → FunctionRows c many (e ∷ es) r → ServedAs (e ∷ es) r i
  one_served k i e es r ins one made f =
      let w : ℕ = count e.pats in
      let takes = takes_all c unbroken e es ins one in
      let counts : AllOf (λ (g : Equation). count g.pats ≡ count e.pats) (rows (e ∷ es)) =
      all_are (Takes c unbroken (count e.pats)) (λ (g : Equation). count g.pats ≡ count e.pats)
      (λ g h. h.1) (rows (e ∷ es)) (rows_all (Takes c unbroken (count e.pats)) (e ∷ es) takes)
      in
      let fine : AllOf (RowOk many w) r.rows = subst (λ n. AllOf (RowOk many n) r.rows) f.are.head.1
      f.fine in
      let stand : DecideAllEquations k (rows (e ∷ es)) (made.first ∷ made.rest)
      = subst (DecideAllEquations k (rows (e ∷ es))) made.is (trees_stand k (rows (e ∷ es))) in
      let s = chained_serves c Bodies (params (without_bodies form)) many (IsFun form) p w
      (zipped (numbers_from 0 w) 0 []) (one_name c p.cons nf.cons) made.chain stand r.rows
      (rows_stand w (rows (e ∷ es)) r.rows counts f.are.rows fine) in
      record {
        number = k;
        more = s.more;
        trees = s.trees ∙ ap length (sym made.is);
        below = s.below;
        serves = subst
            (λ n. Serves (params (without_bodies form)) (fields form) (IsFun form) p n s.more r.rows
            i) (sym f.are.head.1) s.serves;
      }

  record Found (fs : List (List Equation)) (j : ℕ) (r : Rows) (i : ℕ) : Type 0 where
    equations : List Equation
    is_in : In equations fs
    is : slice_get fs j ≡ Some equations
    served : ServedAs equations r i

  all_served : (fs : List (List Equation)) (funs : List Rows) (k i : ℕ)
      → AllOf (AllOf (λ e. In e c.equations)) fs → AllOf OneName fs → Each fs k i
      → Pairwise (FunctionRows c many) fs funs → (j : ℕ) (r : Rows) → slice_get funs j ≡ Some r
      → Found fs j r (i + j)
  all_served [] [] k i ins one made f j r e = absurd cc
  all_served [] (x ∷ funs) k i ins one made f j r e = absurd f
  all_served (es ∷ fs) [] k i ins one made f j r e = absurd f
  all_served ([] ∷ fs) (x ∷ funs) k i ins one made f j r e = absurd made
  all_served ((e ∷ es) ∷ fs) (x ∷ funs) k i ins one made f zero r q =
      let z : i ≡ i + 0 = omega arith in
      record {
        equations = e ∷ es;
        is_in = here;
        is = refl;
        served
            = subst (ServedAs (e ∷ es) r) z
            (one_served k i e es r ins.0 one.0 made.0
            (subst (FunctionRows c many (e ∷ es)) (some_is q) f.0));
      }
  all_served ((e ∷ es) ∷ fs) (x ∷ funs) k i ins one made f (suc j) r q =
      let n = all_served fs funs (k + length (e ∷ es)) (suc i) ins.1 one.1 made.1 f.1 j r q in
      let z : suc i + j ≡ i + suc j = omega arith in
      record {
        equations = n.equations;
        is_in = there n.is_in;
        is = n.is;
        served
            = subst (ServedAs n.equations r) z n.served;
      }

  found : (f : ℕ) (i : IsFun form f) → Found (functions c.equations) f i.rows f
  found f i =
      let z : 0 + f ≡ f = omega arith in
      subst (Found (functions c.equations) f i.rows) z
      (all_served (functions c.equations) all.funs 0 0
      (functions_all (λ e. In e c.equations) c.equations (all_in c.equations))
      (functions_one c.equations)
      (each_function c unbroken read fits whole_out p nf well.bodies
      (params (without_bodies form)) (IsFun form) known) all.are f i.rows i.is)

  row_fits : (w : ℕ) (gs : List Row) → AllOf (RowOk many w) gs → AllOf (RowFits form w) gs
  row_fits w [] h = tt
  row_fits w (g ∷ gs) h = (record { many = h.0.0; forms = h.0.1 }, row_fits w gs h.1)

  -- as few functions serve each of them
  are_served : (most : ℕ) → ((f : ℕ) (i : IsFun form f) → ServedBelow form most p i.rows f)
      → AreServed form most p
  are_served most served =
      let m = get_position (λ (f : Function). is_named (program_of_heads c) (codes "main") f.name)
      (program_of_heads c).functions p.main main_is in
      let main = counted p.main (length m.0.params)
      (head_at (functions c.equations) (functions_first c.equations) p.main m.0 m.1) in
      let few = well.main.2 in
      let params_are : params p p.main ≡ well.main.0.params = ap (core.params_of p) well.main.1 in
      let same = same_params p (without_bodies form) aligned p.main (as_function main.0.rows)
      (rows_function main.0) in
      record {
        same_cons = refl;
        main = refl;
        heap = same_heap p (without_bodies form) aligned;
        counts = λ f i. same_params p (without_bodies form) aligned f (as_function i.rows)
            (rows_function i);
        names = λ f i e. same_name p (without_bodies form) aligned f (as_function i.rows)
            (rows_function i);
        fits = λ f i. let r = pair_back (FunctionRows c many) (functions c.equations) all.funs f
            i.rows all.are i.is in row_fits i.rows.params i.rows.rows r.2.fine;
        served = served;
        begins = main.0;
        few = omega (arith, few, params_are, same);
        no_fields = grounds.fields_are p (nil p) 0 well.nil_fields;
        two_fields = grounds.fields_are p (cons p) 2 well.cons_fields;
      }

  pub is_within : Within (most_equations c) (equations_meaning form) (core_program_meaning p)
  is_within =
      served_within form (most_equations c) p (are_served (most_equations c) (λ f i.
      let w = found f i in
      let s = w.served in
      let le = rows_within c f w.equations w.is in
      let lt = s.below in
      record { more = s.more; below = omega (arith, lt, le); serves = s.serves }))

  -- the equations of each function have one tree
  pub is_in_step :
      ((es : List Equation) → In es (functions c.equations) → (is_simple es || is_plain es) ≡ true)
      → SameWithinSameUnits (equations_meaning form) (core_program_meaning p)
  is_in_step simple =
      served_in_step form p (are_served 1 (λ f i.
      let w = found f i in
      let s = w.served in
      let one = one_tree w.equations s.number
      (all_of HasFirst (functions c.equations) (functions_first c.equations) w.is_in)
      (simple w.equations w.is_in) in
      let trees = s.trees in
      record { more = s.more; below = omega (arith, trees, one); serves = s.serves }))
    where
      one_tree : (es : List Equation) (k : ℕ) → HasFirst es → (is_simple es || is_plain es) ≡ true
          → length (decisions_from k (rows es)) ≡ 1
      one_tree [] k some h = absurd some
      one_tree (e ∷ es) k some h = let w = whole k e es h
          in ap (λ z. length (decisions_from k z)) w.all ∙ ap length w.one.is

pub means_its_equations : SourceKeepsMeaning
means_its_equations c p readable fine whole_out whole nf =
    let read = was_read c readable in
    let fits = equations_fit c readable in
    let low = constructors_fit c readable in (
      form c fine read fits low p nf whole whole_out,
      is_form c fine read fits low p nf whole whole_out,
      is_within c fine read fits low p nf whole whole_out,
      is_in_step c fine read fits low p nf whole whole_out,
    )
