-- The binders of a program in one list: those with a name that is reserved break rule 22.
use Rattle.std.proofs.Common.{◌≡◌, ℕ, zero, suc, Bool, true, false, List, [], ◌∷◌, ◌++◌, refl, sym, ap, subst, ◌∙◌, arith, Option, Some, None, ◌⊎◌, inl, inr}
use Rattle.std.specs.Prelude.{◌==◌, ◌||◌, slice_get}
use Rattle.std.specs.List.{position_from}
use Rattle.std.proofs.lemmas.Iterator.Adapters.{position_from-zero}
use Rattle.core_reader.specs.declared.syntax.Pattern.{Pattern}
use Rattle.core_reader.specs.declared.syntax.Binder.{Binder}
use Rattle.core_reader.specs.Tree.{Expr, App, Let, Case, Alts, NoAlts, AndAlt, Data, Function, Program}
use Rattle.arity_check.specs.Broken as program
use Rattle.arity_check.specs.Broken.{Broken}
use Rattle.arity_check.specs.BinderLists.{BinderList, OfFunction, OfGroup, OfPattern}
use Rattle.arity_check.specs.Known.{is_reserved}
use Rattle.arity_check.specs.Patterns.{alt_at}
use Rattle.arity_check.specs.Pieces.{FunctionPart, AnApp, AGroup, SomeAlts, binders_of, bound_by, within, Has, TheApp, TheGroup, InMember, InBody, TheAlts, InTested, InAlts, HasAlts, InThis, InLater, InFunction}
use Rattle.arity_check.specs.Scope.{Scope}
use Rattle.arity_check.specs.Tables.{first_of}
use Rattle.arity_check.specs.Whole.{known_of, int_kind}
use Rattle.arity_check.proofs.Names.{int_named, from_reserved, to_reserved}
use Rattle.core_link.specs.Bound.{bound_in, bound_in_alts, bound_in_function, bound_in_functions, is_redeclaration, numbered}
use Rattle.core_link.specs.Found.{IsFirstPlaceWhere, earliest, binder_place}
use Rattle.core_link.proofs.Firsts.{Passed, PassedAt, passed_at, at_passed, same_first, first_passed, earliest_first}
use Rattle.core_link.proofs.Owned.{Doubled}
use Rattle.core_link.proofs.Repeated.{Twice, twice, of_twice, function_placed}

-- ---- items of two lists that pass a test

module _ {X : Type 0} (test : X → Bool) (place : X → ℕ) where
  parts : (xs ys : List X) (at : ℕ) → Passed test place (xs ++ ys) at → Passed test place xs at
      ⊎ Passed test place ys at
  parts [] ys at h = inr h
  parts (x ∷ xs) ys at (inl h) = inl (inl h)
  parts (x ∷ xs) ys at (inr h) = elim (parts xs ys at h) [ inl a ↦ inl (inr a) | inr b ↦ inr b ]

  left : (xs ys : List X) (at : ℕ) → Passed test place xs at → Passed test place (xs ++ ys) at
  left [] ys at h = absurd h
  left (x ∷ xs) ys at (inl h) = inl h
  left (x ∷ xs) ys at (inr h) = inr (left xs ys at h)

  right : (xs ys : List X) (at : ℕ) → Passed test place ys at → Passed test place (xs ++ ys) at
  right [] ys at h = h
  right (x ∷ xs) ys at h = inr (right xs ys at h)

module _ (p : Program) where
  abbrev reserved : Binder → Bool
  reserved b = is_reserved (known_of p) b.name.0

  abbrev Among : List Binder → ℕ → Type 0
  Among = Passed reserved binder_place

  -- what stands in a piece by itself
  abbrev Direct : FunctionPart → ℕ → Type 0
  Direct (AnApp app) at = ⊥
  Direct (AGroup group) at = Among (binders_of group) at
  Direct (SomeAlts alts) at = (i : ℕ) × (pat : Pattern) × (alt_at alts i ≡ Some pat)
      × Among (bound_by pat) at

  record Piecewise (s : Scope) (e : Expr) (at : ℕ) : Type 0 where
    scope : Scope
    piece : FunctionPart
    has : Has p s e scope piece
    direct : Direct piece at

  record PiecewiseAlts (s : Scope) (alts : Alts) (at : ℕ) : Type 0 where
    scope : Scope
    piece : FunctionPart
    has : HasAlts p s alts scope piece
    direct : Direct piece at

  mutual
    piecewise : (e : Expr) (s : Scope) (at : ℕ) → Among (bound_in e) at → Piecewise s e at
    piecewise (App app) s at h = absurd h
    piecewise (Let group e) s at h = elim
        (parts reserved binder_place (binders_of group) (bound_in e) at h) [
          | inl a ↦ record { scope = s; piece = AGroup group; has = TheGroup; direct = a }
          | inr b ↦
              (let w = piecewise e (within p (binders_of group) s) at b
              in record { scope = w.scope; piece = w.piece; has = InBody w.has; direct = w.direct })
        ]
    piecewise (Case e alts) s at h = elim
        (parts reserved binder_place (bound_in e) (bound_in_alts alts) at h) [
          | inl a ↦
              (let w = piecewise e s at a in record
              { scope = w.scope; piece = w.piece; has = InTested w.has; direct = w.direct })
          | inr b ↦ elim (piecewise_alts alts s at b) [
            | inl d ↦ record { scope = s; piece = SomeAlts alts; has = TheAlts; direct = d }
            | inr w ↦ record { scope = w.scope; piece = w.piece; has = InAlts w.has; direct = w.direct }
          ]
        ]

    piecewise_alts : (alts : Alts) (s : Scope) (at : ℕ) → Among (bound_in_alts alts) at
        → Direct (SomeAlts alts) at ⊎ PiecewiseAlts s alts at
    piecewise_alts NoAlts s at h = absurd h
    piecewise_alts (AndAlt pat e alts) s at h = elim
        (parts reserved binder_place (bound_by pat ++ bound_in e) (bound_in_alts alts) at h) [
          | inl a ↦ elim (parts reserved binder_place (bound_by pat) (bound_in e) at a) [
            | inl d ↦ inl (zero, pat, refl, d)
            | inr b ↦ inr
                (let w = piecewise e (within p (bound_by pat) s) at b
                in record { scope = w.scope; piece = w.piece; has = InThis w.has; direct = w.direct })
          ]
          | inr b ↦ elim (piecewise_alts alts s at b) [
            | inl d ↦ inl (suc d.0, d.1, d.2, d.3)
            | inr w ↦ inr
                (record { scope = w.scope; piece = w.piece; has = InLater w.has; direct = w.direct })
          ]
        ]

  -- ---- and back

  abbrev binders_in : FunctionPart → List Binder
  binders_in (AnApp app) = []
  binders_in (AGroup group) = binders_of group
  binders_in (SomeAlts alts) = bound_in_alts alts

  mutual
    in_expr : (s : Scope) (e : Expr) (t : Scope) (piece : FunctionPart) (at : ℕ) → Has p s e t piece
        → Among (binders_in piece) at → Among (bound_in e) at
    in_expr s (App app) t piece at TheApp h = h
    in_expr s (Let group e) t piece at TheGroup h = left reserved binder_place (binders_of group)
        (bound_in e) at h
    in_expr s (Let group e) t piece at (InMember i is) h = absurd h
    in_expr s (Let group e) t piece at (InBody w) h
        = right reserved binder_place (binders_of group) (bound_in e) at
        (in_expr (within p (binders_of group) s) e t piece at w h)
    in_expr s (Case e alts) t piece at TheAlts h = right reserved binder_place (bound_in e)
        (bound_in_alts alts) at h
    in_expr s (Case e alts) t piece at (InTested w) h
        = left reserved binder_place (bound_in e) (bound_in_alts alts) at
        (in_expr s e t piece at w h)
    in_expr s (Case e alts) t piece at (InAlts w) h
        = right reserved binder_place (bound_in e) (bound_in_alts alts) at
        (in_alts s alts t piece at w h)

    in_alts : (s : Scope) (alts : Alts) (t : Scope) (piece : FunctionPart) (at : ℕ)
        → HasAlts p s alts t piece → Among (binders_in piece) at → Among (bound_in_alts alts) at
    in_alts s NoAlts t piece at w h = elim w [ ]
    in_alts s (AndAlt pat e alts) t piece at (InThis w) h =
        left reserved binder_place (bound_by pat ++ bound_in e) (bound_in_alts alts) at
        (right reserved binder_place (bound_by pat) (bound_in e) at
        (in_expr (within p (bound_by pat) s) e t piece at w h))
    in_alts s (AndAlt pat e alts) t piece at (InLater w) h
        = right reserved binder_place (bound_by pat ++ bound_in e) (bound_in_alts alts) at
        (in_alts s alts t piece at w h)

  in_pattern : (alts : Alts) (i : ℕ) (pat : Pattern) (at : ℕ) → alt_at alts i ≡ Some pat
      → Among (bound_by pat) at → Among (bound_in_alts alts) at
  in_pattern NoAlts i pat at e h = absurd cc
  in_pattern (AndAlt q body alts) zero pat at e h =
      let same : q ≡ pat = cc in
      left reserved binder_place (bound_by q ++ bound_in body) (bound_in_alts alts) at
      (left reserved binder_place (bound_by q) (bound_in body) at
      (subst (λ r. Among (bound_by r) at) (sym same) h))
  in_pattern (AndAlt q body alts) (suc i) pat at e h
      = right reserved binder_place (bound_by q ++ bound_in body) (bound_in_alts alts) at
      (in_pattern alts i pat at e h)

  -- ---- functions

  record InOne (fs : List Function) (at : ℕ) : Type 0 where
    number : ℕ
    function : Function
    is : slice_get fs number ≡ Some function
    among : Among (bound_in_function function) at

  in_one : (fs : List Function) (at : ℕ) → Among (bound_in_functions fs) at → InOne fs at
  in_one [] at h = absurd h
  in_one (f ∷ fs) at h = elim
      (parts reserved binder_place (bound_in_function f) (bound_in_functions fs) at h) [
        | inl a ↦ record { number = zero; function = f; is = refl; among = a }
        | inr b ↦
            (let w = in_one fs at b in record
            { number = suc w.number; function = w.function; is = w.is; among = w.among })
      ]

  of_one : (fs : List Function) (i : ℕ) (f : Function) (at : ℕ) → slice_get fs i ≡ Some f
      → Among (bound_in_function f) at → Among (bound_in_functions fs) at
  of_one [] i f at e h = absurd cc
  of_one (g ∷ fs) zero f at e h = let same : g ≡ f = cc
      in left reserved binder_place (bound_in_function g) (bound_in_functions fs) at
      (subst (λ w. Among (bound_in_function w) at) (sym same) h)
  of_one (g ∷ fs) (suc i) f at e h = right reserved binder_place (bound_in_function g)
      (bound_in_functions fs) at (of_one fs i f at e h)

  -- ---- rule 22

  abbrev int_named_data : Data → Bool
  int_named_data d = int_kind ((known_of p).kind d.name)

  abbrev data_place : Data → ℕ
  data_place d = d.at

  abbrev function_place : Function → ℕ
  function_place f = f.at

  abbrev Listed : ℕ → Type 0
  Listed at = PassedAt int_named_data data_place p.constructors at
      ⊎ Among (bound_in_functions p.functions) at

  of_list : (xs : List Binder) (at : ℕ) → BinderList p xs → Among xs at → Broken p 22 at
  of_list xs at list h =
      let w = passed_at reserved binder_place xs at h in
      let v = from_reserved p w.item.name.0 w.passes in
      subst (Broken p 22) w.there (program.ReservedBinder w.number v.0 list w.is v.1.1 v.1.2)

  of_piece : (t : Scope) (piece : FunctionPart) (at : ℕ) → InFunction p t piece → Direct piece at
      → Broken p 22 at
  of_piece t (AnApp app) at inside h = absurd h
  of_piece t (AGroup group) at inside h = of_list (binders_of group) at (OfGroup inside) h
  of_piece t (SomeAlts alts) at inside h = of_list (bound_by h.1) at (OfPattern h.0 inside h.2) h.3

  of_function : (i : ℕ) (f : Function) (at : ℕ) → slice_get p.functions i ≡ Some f
      → Among (bound_in_function f) at → Broken p 22 at
  of_function i f at is (inl h) =
      let v = from_reserved p f.name h.0 in
      subst (Broken p 22) h.1 (program.ReservedFunction i v.0 is v.1.1 v.1.2)
  of_function i f at is (inr h) = elim (parts reserved binder_place f.params (bound_in f.body) at h) [
    | inl a ↦ of_list f.params at (OfFunction i is) a
    | inr b ↦
        (let w = piecewise f.body (within p f.params []) at b
        in of_piece w.scope w.piece at (record { number = i; function = f; is = is; has = w.has })
        w.direct)
  ]

  of_listed : (at : ℕ) → Listed at → Broken p 22 at
  of_listed at (inl w) = subst (Broken p 22) w.there
      (program.ReservedConstructor w.number w.is (sym (int_named p w.item.name) ∙ w.passes))
  of_listed at (inr h) = let w = in_one p.functions at h
      in of_function w.number w.function at w.is w.among

  in_list : (xs : List Binder) (at : ℕ) → BinderList p xs → Among xs at
      → Among (bound_in_functions p.functions) at
  in_list xs at (OfFunction {f = f} i is) h = of_one p.functions i f at is
      (inr (left reserved binder_place f.params (bound_in f.body) at h))
  in_list xs at (OfGroup {t = t} {group = group} inside) h =
      let f = inside.function in
      of_one p.functions inside.number f at inside.is
      (inr (right reserved binder_place f.params (bound_in f.body) at
      (in_expr (within p f.params []) f.body t (AGroup group) at inside.has h)))
  in_list xs at (OfPattern {t = t} {alts = alts} {pat = pat} i inside e) h =
      let f = inside.function in
      of_one p.functions inside.number f at inside.is
      (inr (right reserved binder_place f.params (bound_in f.body) at
      (in_expr (within p f.params []) f.body t (SomeAlts alts) at inside.has
      (in_pattern alts i pat at e h))))

  -- ---- the rules of which names are the cause

  abbrev TwiceCon : ℕ → Type 0
  TwiceCon = Twice (λ (d : Data). d.name) data_place p.constructors

  abbrev TwiceFunction : ℕ → Type 0
  TwiceFunction = Twice (λ (f : Function). f.name) function_place p.functions

  abbrev Causes : ℕ → ℕ → Type 0
  Causes k at = (k ≡ 11 → TwiceCon at) × (k ≡ 12 → TwiceFunction at) × (k ≡ 22 → Listed at)

  of_none : (k at : ℕ) → ((k == 11) || ((k == 12) || (k == 22))) ≡ false → Causes k at
  of_none k at e =
      (λ h. absurd (never 11 h refl), λ h. absurd (never 12 h refl), λ h. absurd (never 22 h refl))
    where
      never : (n : ℕ) → k ≡ n → ((n == 11) || ((n == 12) || (n == 22))) ≡ true → ⊥
      never n h t = let both : true ≡ false = sym t ∙ ap
          (λ m. (m == 11) || ((m == 12) || (m == 22))) (sym h) ∙ e in cc

  causes : (k at : ℕ) → Broken p k at → Causes k at
  causes k at (program.DuplicateConstructor {i = i} {j = j} {c = c} {d = d} l e f s) = (
    λ h. record {
      i = i;
      j = j;
      one = c;
      other = d;
      before = l;
      is_one = e;
      is_other = f;
      same = s;
      there
          = refl;
    },
    λ h. absurd (omega (arith, h)),
    λ h. absurd (omega (arith, h)),
  )
  causes k at (program.DuplicateFunction {i = i} {j = j} {f = f} {g = g} l e h s) = (
    λ n. absurd (omega (arith, n)),
    λ n. record {
      i = i;
      j = j;
      one = f;
      other = g;
      before = l;
      is_one = e;
      is_other = h;
      same = s;
      there
          = refl;
    },
    λ n. absurd (omega (arith, n)),
  )
  causes k at (program.ReservedBinder {xs = xs} {x = x} i n list e f g) = (
    λ h. absurd (omega (arith, h)),
    λ h. absurd (omega (arith, h)),
    λ h. inr (in_list xs x.at list
        (at_passed reserved binder_place xs i x e (to_reserved p x.name.0 n _ f g))),
  )
  causes k at (program.ReservedFunction {f = f} i n e q g) = (
    λ h. absurd (omega (arith, h)),
    λ h. absurd (omega (arith, h)),
    λ h. inr (of_one p.functions i f f.at e (inl (to_reserved p f.name n _ q g, refl))),
  )
  causes k at (program.ReservedConstructor {d = d} i e f) = (
    λ h. absurd (omega (arith, h)),
    λ h. absurd (omega (arith, h)),
    λ h. inl (record
        { number = i; item = d; is = e; passes = int_named p d.name ∙ f; there = refl }),
  )
  causes k at (program.NoMain e) = of_none 19 0 refl
  causes k at (program.DuplicateName list r) = of_none 13 at refl
  causes k at (program.UnknownName b e) = of_none 14 at refl
  causes k at (program.UnknownConstructor b e) = of_none 14 at refl
  causes k at (program.UnknownPattern i b e f) = of_none 14 _ refl
  causes k at (program.ConstructorArity b e f) = of_none 15 at refl
  causes k at (program.PatternArity i b e f g) = of_none 15 _ refl
  causes k at (program.DefaultNotLast i b e f) = of_none 16 _ refl
  causes k at (program.DuplicateCon i j b l e f g) = of_none 17 _ refl
  causes k at (program.DuplicateInt i j b l e f) = of_none 17 _ refl
  causes k at (program.MixedAlternatives i j b e l f g) = of_none 18 _ refl
  causes k at (program.PrimitiveArity b e f) = of_none 23 at refl
  causes k at (program.MainHasParameters i e f g) = of_none 20 _ refl
  causes k at (program.NoListConstructors e) = of_none 21 0 refl
  causes k at (program.TooManyFunctions e) = of_none 31 _ refl
  causes k at (program.TooManyConstructors e) = of_none 32 _ refl
  causes k at (program.TooManyParameters i e f) = of_none 33 _ refl
  causes k at (program.TooManyArguments b e f) = of_none 33 _ refl
  causes k at (program.TooManyFields i e f) = of_none 34 _ refl
  causes k at (program.CoreTooLarge e) = of_none 35 _ refl

  pub reserved_first : IsFirstPlaceWhere (Broken p 22)
      (earliest reserved binder_place (earliest int_named_data data_place None p.constructors)
      (bound_in_functions p.functions))
  reserved_first =
      let first = earliest int_named_data data_place None p.constructors in
      let all = bound_in_functions p.functions in
      same_first Listed (Broken p 22) of_listed (λ at b. (causes 22 at b).2 refl)
      (earliest reserved binder_place first all)
      (earliest_first reserved binder_place all (PassedAt int_named_data data_place p.constructors)
      first (first_passed int_named_data data_place p.constructors))

  -- ---- rules 11 and 12

  abbrev con_name : Data → ℕ
  con_name d = d.name

  abbrev function_name : Function → ℕ
  function_name f = f.name

  abbrev con_first : ℕ → Option ℕ
  con_first = (known_of p).number

  abbrev function_first : ℕ → Option ℕ
  function_first x = first_of ((known_of p).function x)

  con_placed : (x : ℕ) → con_first x ≡ position_from (λ (d : Data). d.name == x) 0 p.constructors
  con_placed x = position_from-zero (λ (d : Data). d.name == x) p.constructors

  abbrev later_con : ℕ × Data → Bool
  later_con q = is_redeclaration (con_first q.1.name) q.0

  abbrev later_function : ℕ × Function → Bool
  later_function q = is_redeclaration (function_first q.1.name) q.0

  abbrev con_at : ℕ × Data → ℕ
  con_at q = q.1.at

  abbrev function_at_place : ℕ × Function → ℕ
  function_at_place q = q.1.at

  abbrev Again : ℕ → Type 0
  Again at = PassedAt later_con con_at (numbered 0 p.constructors) at
      ⊎ Passed later_function function_at_place (numbered 0 p.functions) at

  of_again : (at : ℕ) → Again at → Doubled p at
  of_again at (inl w) =
      let t = twice con_name data_place p.constructors con_first con_placed at w in
      inl (subst (Broken p 11) t.there
      (program.DuplicateConstructor t.before t.is_one t.is_other t.same))
  of_again at (inr h) =
      let t = twice function_name function_place p.functions function_first
      (function_placed p.functions 0) at
      (passed_at later_function function_at_place (numbered 0 p.functions) at h) in
      inr (subst (Broken p 12) t.there
      (program.DuplicateFunction t.before t.is_one t.is_other t.same))

  is_again : (at : ℕ) → Doubled p at → Again at
  is_again at (inl b) = inl
      (of_twice con_name data_place p.constructors con_first con_placed at
      ((causes 11 at b).0 refl))
  is_again at (inr b) =
      let w = of_twice function_name function_place p.functions function_first
      (function_placed p.functions 0) at ((causes 12 at b).1 refl) in
      inr (subst (Passed later_function function_at_place (numbered 0 p.functions)) w.there
      (at_passed later_function function_at_place (numbered 0 p.functions) w.number w.item w.is
      w.passes))

  pub doubles_first : IsFirstPlaceWhere (Doubled p)
      (earliest later_function function_at_place
      (earliest later_con con_at None (numbered 0 p.constructors)) (numbered 0 p.functions))
  doubles_first =
      let first = earliest later_con con_at None (numbered 0 p.constructors) in
      same_first Again (Doubled p) of_again is_again
      (earliest later_function function_at_place first (numbered 0 p.functions))
      (earliest_first later_function function_at_place (numbered 0 p.functions)
      (PassedAt later_con con_at (numbered 0 p.constructors)) first
      (first_passed later_con con_at (numbered 0 p.constructors)))
