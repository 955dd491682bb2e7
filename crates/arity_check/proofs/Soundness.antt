-- The refusals that the check meets are the rules that a program breaks, each at its place.
--
-- The check walks the program once and keeps the earliest refusal. A first proof shows that the
-- refusals that such a walk meets are the broken rules, each at its place. A second one, by
-- induction on the parts of a program, builds the normal form where no rule is broken. A third one
-- shows, by two derivations side by side, that there is no other normal form.
use Rattle.std.proofs.Common.{◌≡◌, ◌≢◌, ℕ, suc, ◌+◌, ◌<◌, Bool, true, false, List, [], ◌∷◌, ◌++◌, length, refl, sym, ap, ◌∙◌, subst, arith, Option, Some, None, inl, inr}
use Rattle.std.specs.Prelude.{◌==◌, nat_lt, not, ◌&&◌, slice_get, codes}
use Rattle.std.specs.List.{list_any}
use Rattle.std.proofs.lemmas.Bool.{eqb-true, eq-eqb, ltb-true, lt-ltb}
use Rattle.core_reader.specs.declared.syntax.Pattern.{Pattern}
use Rattle.core_reader.specs.declared.syntax.Pattern.TheVariants as pattern
use Rattle.core_reader.specs.declared.syntax.Binder.{Binder}
use Rattle.core_reader.specs.Tree.{Term, Name, Con, Int, Bracket, Application, Alts, Data, Function, Program}
use Rattle.core_reader.specs.Size.{program_size}
use Rattle.arity_check.specs.declared.globals.NameKind.{NameKind}
use Rattle.arity_check.specs.declared.refusal.CheckRefusal.{CheckRefusal}
use Rattle.arity_check.specs.declared.refusal.CheckRefusal.TheVariants as refusal
use Rattle.arity_check.specs.Scope as scope
use Rattle.arity_check.specs.Scope.{Scope, Meaning, Local, Primitive, Unbound, means, is_named}
use Rattle.arity_check.specs.Refusal.{rule, number}
use Rattle.arity_check.specs.Broken as broken
use Rattle.arity_check.specs.Standing.{count}
use Rattle.arity_check.specs.Pieces.{InFunction, StandsApplied, FunctionPart, AnApp, AGroup, SomeAlts, binders_of, bound_by, within}
use Rattle.arity_check.specs.Patterns.{IsFirstNonDefault, KindsDiffer, alt_at, pattern_place}
use Rattle.arity_check.specs.BinderLists.{BinderList, OfFunction, OfGroup, OfPattern, Repeats}
use Rattle.arity_check.specs.Broken.{Broken, first_constructor_named, Declares}
use Rattle.arity_check.specs.Known.{Known, is_nameless, is_reserved, meaning, all_entered}
use Rattle.arity_check.specs.Faults.{refusal_if, meaning_faults, arity_faults, mixes_kinds, no_patterns, app_faults, binder_faults, binders_faults, pattern_faults, patterns_faults, expr_faults}
use Rattle.arity_check.specs.Whole.{known_of, main_kind, int_kind, nil_kind, cons_kind, con_faults, cons_faults, header_faults, body_faults, functions_faults, has_main, has_fields, has_nil, has_cons, lacks_faults, program_faults}
use Rattle.seq.specs.Lists.{In, here}
use Rattle.seq.proofs.Truth.{true_not_false, not_true, and_parts, and_from, two_ways}
use Rattle.arity_check.proofs.Noted.{in_left, in_right, in_cases, from_one, from_noted, to_noted, walked, from_walked, to_walked, to_walked_again}
use Rattle.arity_check.proofs.Names.{nameless_named, main_named, int_named, nil_named, cons_named, meaning_means, entered_within, fields_some, fields_none, from_reserved, to_reserved, first_place, first_with}
use Rattle.arity_check.proofs.Apps.{atom_faults, app_from, to_app, to_contains}
use Rattle.arity_check.proofs.Exprs.{piece_faults, bound_faults, expr_from, to_expr, to_bound, bound_from}
use Rattle.arity_check.proofs.Patterns.{state, last_at, patterns_from, to_patterns, last_from, to_last, con_from, to_con, int_from, to_int, kind_of_pattern, kind_from, to_kind}
use Rattle.arity_check.proofs.Tests.{true_not, differ, to_differ, differs, any_at, from_any}

module _ (p : Program) where
  abbrev k : Known
  k = known_of p

  abbrev none : ℕ → Bool
  none x = false

  abbrev IsBroken : CheckRefusal → Type 0
  IsBroken r = Broken p (rule r) (number r)

  retag : (q r : CheckRefusal) → q ≡ r → IsBroken q → IsBroken r
  retag q r e b = subst IsBroken e b

  -- ---- binders
  abbrev binder_step : ℕ → Bool → Binder → List CheckRefusal
  binder_step i b x = binder_faults k (λ y. b) x

  binders_walked : (i : ℕ) (seen : ℕ → Bool) (xs : List Binder)
      → binders_faults k seen xs ≡ walked (λ (x : Binder). x.name.0) binder_step i seen xs
  binders_walked i seen [] = refl
  binders_walked i seen (x ∷ xs) = ap (λ t. binder_faults k seen x ++ t)
      (binders_walked (i + 1) _ xs)

  binders_broken : (xs : List Binder) → BinderList p xs → (r : CheckRefusal)
      → In r (binders_faults k none xs) → IsBroken r
  binders_broken xs bl r i =
      let w = from_walked (λ (x : Binder). x.name.0) binder_step r 0 none xs
      (subst (In r) (binders_walked 0 none xs) i) in
      let x : Binder = w.item in
      elim (in_cases r (refusal_if (is_reserved k x.name.0) (refusal.ReservedName x.at))
      (refusal_if (not (is_nameless k x.name.0) && w.again) (refusal.DuplicateName x.at))
      w.found) [
        | inl a ↦
            let n = from_noted (is_reserved k x.name.0) (refusal.ReservedName x.at) r a in
            let v = from_reserved p x.name.0 n.holds in
            retag (refusal.ReservedName x.at) r n.is
            (broken.ReservedBinder w.i v.0 bl w.is v.1.1 v.1.2)
        | inr b ↦
            let n = from_noted (not (is_nameless k x.name.0) && w.again)
            (refusal.DuplicateName x.at) r b in
            let h = and_parts (not (is_nameless k x.name.0)) w.again n.holds in
            elim (w.before h.1) [
              | inl e ↦ true_not_false (sym e)
              | inr o ↦ retag (refusal.DuplicateName x.at) r n.is (broken.DuplicateName bl (record {
                i = o.0;
                j = w.i;
                first = o.1.0;
                second = x;
                before = o.1.1;
                is_first = o.1.2;
                is_second = w.is;
                same = o.1.3;
                named = sym (nameless_named p x.name.0) ∙ not_true (is_nameless k x.name.0) h.0;
                here = refl;
              }))
            ]
      ]

  to_repeats : (xs : List Binder) (at : ℕ) → Repeats p xs at
      → In (refusal.DuplicateName at) (binders_faults k none xs)
  to_repeats xs at w =
      let y : Binder = w.second in
      let named : not (is_nameless k y.name.0) ≡ true
      = true_not (is_nameless k y.name.0) (nameless_named p y.name.0 ∙ w.named) in
      let here : In (refusal.DuplicateName y.at) (binder_step w.j true y) =
      in_right (refusal_if (is_reserved k y.name.0) (refusal.ReservedName y.at))
      (to_noted (not (is_nameless k y.name.0) && true) (refusal.DuplicateName y.at)
      (and_from (not (is_nameless k y.name.0)) true named refl)) in
      let all : In (refusal.DuplicateName y.at) (binders_faults k none xs)
      = subst (In (refusal.DuplicateName y.at)) (sym (binders_walked 0 none xs))
      (to_walked_again (λ (x : Binder). x.name.0) binder_step (refusal.DuplicateName y.at) 0 none xs
      w.i w.j w.first y w.before w.is_first w.is_second w.same here) in
      subst (λ n. In (refusal.DuplicateName n) (binders_faults k none xs)) w.here all

  to_reserves : (xs : List Binder) (i : ℕ) (x : Binder) → slice_get xs i ≡ Some x
      → is_reserved k x.name.0 ≡ true → In (refusal.ReservedName x.at) (binders_faults k none xs)
  to_reserves xs i x e h =
      subst (In (refusal.ReservedName x.at)) (sym (binders_walked 0 none xs))
      (to_walked (λ (x : Binder). x.name.0) binder_step (refusal.ReservedName x.at) 0 none xs i x e
      (λ b. in_left
      (refusal_if (not (is_nameless k x.name.0) && b) (refusal.DuplicateName x.at))
      (to_noted (is_reserved k x.name.0) (refusal.ReservedName x.at) h)))

  -- ---- arities
  pub data Arity (c at n : ℕ) (r : CheckRefusal) : Type 0 where
    NoSuch : first_constructor_named c p.constructors ≡ None → refusal.UnknownName at ≡ r
        → Arity c at n r
    Wrong : (d : Data) → first_constructor_named c p.constructors ≡ Some d → n ≢ d.fields
        → refusal.ConstructorArity at ≡ r → Arity c at n r

  arity_from : (c at n : ℕ) (r : CheckRefusal) → In r (arity_faults (k.fields c) at n)
      → Arity c at n r
  arity_from c at n r i = go (first_constructor_named c p.constructors) refl
    where
      go : (o : Option Data) → first_constructor_named c p.constructors ≡ o → Arity c at n r
      go None e = NoSuch e
          (from_one (refusal.UnknownName at) r
          (subst (λ o. In r (arity_faults o at n)) (fields_none p c p.constructors e) i))
      go (Some d) e =
          let w = from_noted (not (n == d.fields)) (refusal.ConstructorArity at) r
          (subst (λ o. In r (arity_faults o at n)) (fields_some p c p.constructors d e) i) in
          Wrong d e (differ n d.fields w.holds) w.is

  to_unknown : (c at n : ℕ) → first_constructor_named c p.constructors ≡ None
      → In (refusal.UnknownName at) (arity_faults (k.fields c) at n)
  to_unknown c at n e = subst (λ o. In (refusal.UnknownName at) (arity_faults o at n))
      (sym (fields_none p c p.constructors e)) here

  to_wrong : (c at n : ℕ) (d : Data) → first_constructor_named c p.constructors ≡ Some d
      → n ≢ d.fields → In (refusal.ConstructorArity at) (arity_faults (k.fields c) at n)
  to_wrong c at n d e h = subst (λ o. In (refusal.ConstructorArity at) (arity_faults o at n))
      (sym (fields_some p c p.constructors d e))
      (to_noted (not (n == d.fields)) (refusal.ConstructorArity at) (to_differ n d.fields h))

  -- ---- heads
  name_broken : (t : Scope) (x at n : ℕ) (r : CheckRefusal) → StandsApplied p t (Name x at) n
      → In r (meaning_faults (meaning k t x) at n) → IsBroken r
  name_broken t x at n r u i = go (means p t x) refl
      (subst (λ m. In r (meaning_faults m at n)) (meaning_means p t x) i)
    where
      go : (m : Meaning) → means p t x ≡ m → In r (meaning_faults m at n) → IsBroken r
      go (Local y) e j = elim j [ ]
      go (scope.Function f params) e j = elim j [ ]
      go (Primitive op) e j = let w = from_noted (not (n == 2)) (refusal.PrimitiveArity at) r j
          in retag (refusal.PrimitiveArity at) r w.is
          (broken.PrimitiveArity u e (differ n 2 w.holds))
      go Unbound e j = retag (refusal.UnknownName at) r (from_one (refusal.UnknownName at) r j)
          (broken.UnknownName u e)

  con_broken : (t : Scope) (c at n : ℕ) (r : CheckRefusal) → StandsApplied p t (Con c at) n
      → Arity c at n r → IsBroken r
  con_broken t c at n r u (NoSuch e s) = retag (refusal.UnknownName at) r s
      (broken.UnknownConstructor u e)
  con_broken t c at n r u (Wrong d e h s) = retag (refusal.ConstructorArity at) r s
      (broken.ConstructorArity u e h)

  atom_broken : (t : Scope) (h : Term) (n : ℕ) (r : CheckRefusal) → StandsApplied p t h n
      → In r (atom_faults k t r h n) → IsBroken r
  atom_broken t (Name x at) n r u i = name_broken t x at n r u i
  atom_broken t (Con c at) n r u i = con_broken t c at n r u (arity_from c at n r i)
  atom_broken t (Int m at) n r u i = elim i [ ]
  atom_broken t (Bracket head args at) n r u i = elim i [ ]

  app_broken : (t : Scope) (app : Application) (r : CheckRefusal) → InFunction p t (AnApp app)
      → In r (app_faults k t 0 app) → IsBroken r
  app_broken t app r f i =
      elim (app_from k t r app i) [
        | inl w ↦ atom_broken t w.atom w.count r (app, f, w.stands) w.found
        | inr w ↦
            let n = from_noted (nat_lt 12 (count w.inner.args))
            (refusal.TooManyParameters (broken.place w.inner.head)) r w.found in
            retag (refusal.TooManyParameters (broken.place w.inner.head)) r n.is
            (broken.TooManyArguments f w.contains (ltb-true 12 (count w.inner.args) n.holds))
      ]

  -- ---- patterns
  mixed_kind : (o : Option Bool) (b : Bool) → mixes_kinds o b ≡ true → o ≡ Some (not b)
  mixed_kind None b e = absurd cc
  mixed_kind (Some true) true e = absurd cc
  mixed_kind (Some true) false e = refl
  mixed_kind (Some false) true e = refl
  mixed_kind (Some false) false e = absurd cc

  not_not : (b : Bool) → not (not b) ≡ b
  not_not true = refl
  not_not false = refl

  mixed_broken : (t : Scope) (alts : Alts) (i : ℕ) (pat : Pattern) (b : Bool)
      → InFunction p t (SomeAlts alts) → alt_at alts i ≡ Some pat → kind_of_pattern pat ≡ Some b
      → mixes_kinds (state no_patterns alts i).is_con b ≡ true → Broken p 18 (pattern_place pat)
  mixed_broken t alts i pat b f is kind h =
      let w = kind_from no_patterns alts i (not b) refl
      (mixed_kind (state no_patterns alts i).is_con b h) in
      broken.MixedAlternatives w.j i f w.first w.before is
      (differs w.pat pat (not b) w.kind (kind ∙ ap Some (sym (not_not b))))

  pattern_broken : (t : Scope) (alts : Alts) (i : ℕ) (pat : Pattern) (r : CheckRefusal)
      → InFunction p t (SomeAlts alts) → alt_at alts i ≡ Some pat
      → In r (pattern_faults k (state no_patterns alts i) (last_at alts i) pat) → IsBroken r
  pattern_broken t alts i (pattern.Con c fields) r f is j =
      let s = state no_patterns alts i in
      elim (in_cases r (arity_faults (k.fields c.name.0) c.at (length fields))
      (refusal_if (s.cons c.name.0) (refusal.DuplicateAlternative c.at)
      ++ refusal_if (mixes_kinds s.is_con true) (refusal.MixedAlternatives c.at)) j) [
        | inl a ↦ elim (arity_from c.name.0 c.at (length fields) r a) [
          | NoSuch e q ↦ retag (refusal.UnknownName c.at) r q (broken.UnknownPattern i f is e)
          | Wrong d e h q ↦ retag (refusal.ConstructorArity c.at) r q
              (broken.PatternArity i f is e h)
        ]
        | inr b ↦ elim
            (in_cases r (refusal_if (s.cons c.name.0) (refusal.DuplicateAlternative c.at))
            (refusal_if (mixes_kinds s.is_con true) (refusal.MixedAlternatives c.at)) b) [
              | inl a ↦
                  let n = from_noted (s.cons c.name.0) (refusal.DuplicateAlternative c.at) r a in
                  elim (con_from no_patterns alts i c.name.0 n.holds) [
                    | inl e ↦ true_not_false (sym e)
                    | inr w ↦ retag (refusal.DuplicateAlternative c.at) r n.is
                        (broken.DuplicateCon w.j i f w.before w.is is (sym w.same))
                  ]
              | inr a ↦
                  let n = from_noted (mixes_kinds s.is_con true) (refusal.MixedAlternatives c.at) r
                  a in
                  retag (refusal.MixedAlternatives c.at) r n.is
                  (mixed_broken t alts i (pattern.Con c fields) true f is refl n.holds)
            ]
      ]
  pattern_broken t alts i (pattern.Int m at) r f is j =
      let s = state no_patterns alts i in
      elim (in_cases r (refusal_if (s.ints m) (refusal.DuplicateAlternative at))
      (refusal_if (mixes_kinds s.is_con false) (refusal.MixedAlternatives at)) j) [
        | inl a ↦
            let n = from_noted (s.ints m) (refusal.DuplicateAlternative at) r a in
            elim (int_from no_patterns alts i m n.holds) [
              | inl e ↦ true_not_false (sym e)
              | inr w ↦ retag (refusal.DuplicateAlternative at) r n.is
                  (broken.DuplicateInt w.j i f w.before w.is is)
            ]
        | inr a ↦
            let n = from_noted (mixes_kinds s.is_con false) (refusal.MixedAlternatives at) r a in
            retag (refusal.MixedAlternatives at) r n.is
            (mixed_broken t alts i (pattern.Int m at) false f is refl n.holds)
      ]
  pattern_broken t alts i (pattern.Default x) r f is j =
      let n = from_noted (not (last_at alts i)) (refusal.DefaultNotLast x.at) r j in
      let w = last_from alts i (pattern.Default x) is (not_true (last_at alts i) n.holds) in
      let e : suc i ≡ i + 1 = omega arith in
      retag (refusal.DefaultNotLast x.at) r n.is
      (broken.DefaultNotLast i f is (subst (λ n. alt_at alts n ≡ Some w.0) e w.1))

  piece_broken : (t : Scope) (piece : FunctionPart) (r : CheckRefusal) → InFunction p t piece
      → In r (piece_faults p r t piece) → IsBroken r
  piece_broken t (AnApp app) r f i = app_broken t app r f i
  piece_broken t (AGroup group) r f i = binders_broken (binders_of group) (OfGroup f) r i
  piece_broken t (SomeAlts alts) r f i =
      elim (in_cases r (patterns_faults k no_patterns alts) (bound_faults p r alts) i) [
        | inl a ↦ let w = patterns_from k r no_patterns alts a
            in pattern_broken t alts w.i w.pat r f w.is w.found
        | inr a ↦ let w = bound_from p r alts a in binders_broken (bound_by w.pat)
            (OfPattern w.i f w.is) r w.found
      ]

  -- ---- the parts of a program
  abbrev con_step : ℕ → Bool → Data → List CheckRefusal
  con_step i b d = con_faults k i (λ x. b) d

  abbrev fun_step : ℕ → Bool → Function → List CheckRefusal
  fun_step i b f = header_faults k i (λ x. b) f ++ body_faults k [] f

  cons_walked : (i : ℕ) (seen : ℕ → Bool) (ds : List Data)
      → cons_faults k i seen ds ≡ walked (λ (d : Data). d.name) con_step i seen ds
  cons_walked i seen [] = refl
  cons_walked i seen (d ∷ ds) = ap (λ t. con_faults k i seen d ++ t) (cons_walked (i + 1) _ ds)

  funs_walked : (i : ℕ) (seen : ℕ → Bool) (fs : List Function)
      → functions_faults k [] i seen fs ≡ walked (λ (f : Function). f.name) fun_step i seen fs
  funs_walked i seen [] = refl
  funs_walked i seen (f ∷ fs) = ap (λ t. (header_faults k i seen f ++ body_faults k [] f) ++ t)
      (funs_walked (i + 1) _ fs)

  at_zero : {T : Type 0} (xs : List T) (i n : ℕ) (x : T) → slice_get xs i ≡ Some x
      → (0 + i == n) ≡ true → slice_get xs n ≡ Some x
  at_zero xs i n x e h = let s : i ≡ n = omega (arith, eqb-true (0 + i) n h)
      in subst (λ n. slice_get xs n ≡ Some x) s e

  cons_broken : (r : CheckRefusal) → In r (cons_faults k 0 none p.constructors) → IsBroken r
  cons_broken r i =
      let w = from_walked (λ (d : Data). d.name) con_step r 0 none p.constructors
      (subst (In r) (cons_walked 0 none p.constructors) i) in
      let d : Data = w.item in
      elim (in_cases r (refusal_if (0 + w.i == 1024) (refusal.TooManyConstructors d.at)) _ w.found) [
        | inl a ↦ let n = from_noted (0 + w.i == 1024) (refusal.TooManyConstructors d.at) r a
            in retag (refusal.TooManyConstructors d.at) r n.is
            (broken.TooManyConstructors (at_zero p.constructors w.i 1024 d w.is n.holds))
        | inr b ↦ elim (in_cases r (refusal_if w.again (refusal.DuplicateConstructor d.at)) _ b) [
          | inl a ↦
              let n = from_noted w.again (refusal.DuplicateConstructor d.at) r a in
              elim (w.before n.holds) [
                | inl e ↦ true_not_false (sym e)
                | inr o ↦ retag (refusal.DuplicateConstructor d.at) r n.is
                    (broken.DuplicateConstructor o.1.1 o.1.2 w.is o.1.3)
              ]
          | inr c ↦ elim
              (in_cases r (refusal_if (nat_lt 12 d.fields) (refusal.TooManyFields d.at)) _ c) [
                | inl a ↦ let n = from_noted (nat_lt 12 d.fields) (refusal.TooManyFields d.at) r a
                    in retag (refusal.TooManyFields d.at) r n.is
                    (broken.TooManyFields w.i w.is (ltb-true 12 d.fields n.holds))
                | inr a ↦
                    let n = from_noted (int_kind (k.kind d.name)) (refusal.ReservedName d.at) r a in
                    retag (refusal.ReservedName d.at) r n.is
                    (broken.ReservedConstructor w.i w.is (sym (int_named p d.name) ∙ n.holds))
              ]
        ]
      ]

  body_broken : (r : CheckRefusal) (i : ℕ) (f : Function) → slice_get p.functions i ≡ Some f
      → In r (body_faults k [] f) → IsBroken r
  body_broken r i f is j =
      elim (in_cases r (binders_faults k none f.params)
      (expr_faults k (all_entered k f.params []) f.body) j) [
        | inl a ↦ binders_broken f.params (OfFunction i is) r a
        | inr a ↦
            let w = expr_from p r (within p f.params []) f.body
            (subst (λ q. In r (expr_faults k q f.body)) (entered_within p f.params []) a) in
            piece_broken w.scope w.piece r
            (record { number = i; function = f; is = is; has = w.has }) w.found
      ]

  funs_broken : (r : CheckRefusal) → In r (functions_faults k [] 0 none p.functions) → IsBroken r
  funs_broken r i =
      let w = from_walked (λ (f : Function). f.name) fun_step r 0 none p.functions
      (subst (In r) (funs_walked 0 none p.functions) i) in
      let f : Function = w.item in
      elim (in_cases r (header_faults k (0 + w.i) (λ x. w.again) f) (body_faults k [] f) w.found) [
        | inr b ↦ body_broken r w.i f w.is b
        | inl h ↦ elim
            (in_cases r (refusal_if (0 + w.i == 4096) (refusal.TooManyFunctions f.at)) _ h) [
              | inl a ↦ let n = from_noted (0 + w.i == 4096) (refusal.TooManyFunctions f.at) r a
                  in retag (refusal.TooManyFunctions f.at) r n.is
                  (broken.TooManyFunctions (at_zero p.functions w.i 4096 f w.is n.holds))
              | inr b ↦ elim (in_cases r (refusal_if w.again (refusal.DuplicateFunction f.at)) _ b) [
                | inl a ↦
                    let n = from_noted w.again (refusal.DuplicateFunction f.at) r a in
                    elim (w.before n.holds) [
                      | inl e ↦ true_not_false (sym e)
                      | inr o ↦ retag (refusal.DuplicateFunction f.at) r n.is
                          (broken.DuplicateFunction o.1.1 o.1.2 w.is o.1.3)
                    ]
                | inr c ↦ elim
                    (in_cases r
                    (refusal_if (nat_lt 12 (length f.params)) (refusal.TooManyParameters f.at)) _ c) [
                      | inl a ↦ let n = from_noted (nat_lt 12 (length f.params))
                          (refusal.TooManyParameters f.at) r a
                          in retag (refusal.TooManyParameters f.at) r n.is
                          (broken.TooManyParameters w.i w.is
                          (ltb-true 12 (length f.params) n.holds))
                      | inr d ↦ elim
                          (in_cases r
                          (refusal_if (is_reserved k f.name) (refusal.ReservedName f.at)) _ d) [
                            | inl a ↦
                                let n = from_noted (is_reserved k f.name)
                                (refusal.ReservedName f.at) r a in
                                let v = from_reserved p f.name n.holds in
                                retag (refusal.ReservedName f.at) r n.is
                                (broken.ReservedFunction w.i v.0 w.is v.1.1 v.1.2)
                            | inr a ↦
                                let n = from_noted
                                (main_kind (k.kind f.name) && nat_lt 1 (length f.params))
                                (refusal.MainHasParameters f.at) r a in
                                let h = and_parts (main_kind (k.kind f.name))
                                (nat_lt 1 (length f.params))
                                n.holds in
                                retag (refusal.MainHasParameters f.at) r n.is
                                (broken.MainHasParameters w.i w.is (sym (main_named p f.name) ∙ h.0)
                                (ltb-true 1 (length f.params) h.1))
                          ]
                    ]
              ]
            ]
      ]

  abbrev main_test : Function → Bool
  main_test f = main_kind (k.kind f.name)

  no_main : has_main k p.functions ≡ false → (i : ℕ) (f : Function)
      → slice_get p.functions i ≡ Some f → is_named p (codes "main") f.name ≡ false
  no_main e i f is = elim (two_ways (is_named p (codes "main") f.name)) [
    | inl h ↦ true_not_false
        (sym (any_at main_test p.functions i f is (main_named p f.name ∙ h)) ∙ e)
    | inr h ↦ h
  ]

  -- a constructor of this kind whose first declaration has so many fields
  declares_by : (test : NameKind → Bool) (name : List ℕ)
      → ((x : ℕ) → test (k.kind x) ≡ is_named p name x) → (n : ℕ) → Declares p name n
      → list_any (λ (d : Data). test (k.kind d.name) && has_fields (k.fields d.name) n)
      p.constructors ≡ true
  declares_by test name same n w =
      let d : Data = w.0 in
      let at = first_place d.name p.constructors d w.1 in
      let fields : has_fields (k.fields d.name) n ≡ true
      = ap (λ o. has_fields o n) (fields_some p d.name p.constructors d w.1) ∙ eq-eqb d.fields n
      w.3 in
      any_at (λ (d : Data). test (k.kind d.name) && has_fields (k.fields d.name) n) p.constructors
      at.0 d at.1
      (and_from (test (k.kind d.name)) (has_fields (k.fields d.name) n) (same d.name ∙ w.2)
      fields)

  by_declares : (test : NameKind → Bool) (name : List ℕ)
      → ((x : ℕ) → test (k.kind x) ≡ is_named p name x) → (n : ℕ)
      → list_any (λ (d : Data). test (k.kind d.name) && has_fields (k.fields d.name) n)
      p.constructors ≡ true → Declares p name n
  by_declares test name same n e =
      let w = from_any (λ (d : Data). test (k.kind d.name) && has_fields (k.fields d.name) n)
      p.constructors e in
      let h = and_parts (test (k.kind w.item.name)) (has_fields (k.fields w.item.name) n) w.passes
      in
      let first = first_with w.item.name n p.constructors h.1 in
      let d : Data = first.0 in
      let own : first_constructor_named d.name p.constructors ≡ Some d
      = ap (λ c. first_constructor_named c p.constructors) first.2 ∙ first.1 in
      (d, own, ap (is_named p name) first.2 ∙ sym (same w.item.name) ∙ h.0, first.3)

  declares_nil : Declares p (codes "Nil") 0 → has_nil k p.constructors ≡ true
  declares_nil w = declares_by nil_kind (codes "Nil") (nil_named p) 0 w

  declares_cons : Declares p (codes "Cons") 2 → has_cons k p.constructors ≡ true
  declares_cons w = declares_by cons_kind (codes "Cons") (cons_named p) 2 w

  nil_declares : has_nil k p.constructors ≡ true → Declares p (codes "Nil") 0
  nil_declares e = by_declares nil_kind (codes "Nil") (nil_named p) 0 e

  cons_declares : has_cons k p.constructors ≡ true → Declares p (codes "Cons") 2
  cons_declares e = by_declares cons_kind (codes "Cons") (cons_named p) 2 e

  lacks_broken : (r : CheckRefusal) → In r (lacks_faults k p.constructors p.functions) → IsBroken r
  lacks_broken r i =
      elim (in_cases r (refusal_if (not (has_main k p.functions)) refusal.NoMain)
      (refusal_if (not (has_nil k p.constructors && has_cons k p.constructors))
      refusal.NoListConstructors) i) [
        | inl a ↦ let n = from_noted (not (has_main k p.functions)) refusal.NoMain r a
            in retag refusal.NoMain r n.is
            (broken.NoMain (no_main (not_true (has_main k p.functions) n.holds)))
        | inr a ↦
            let n = from_noted (not (has_nil k p.constructors && has_cons k p.constructors))
            refusal.NoListConstructors r a in
            retag refusal.NoListConstructors r n.is
            (broken.NoListConstructors (λ w. true_not_false (
            sym (and_from (has_nil k p.constructors) (has_cons k p.constructors) (declares_nil w.0)
            (declares_cons w.1)) ∙ not_true
            (has_nil k p.constructors && has_cons k p.constructors) n.holds)))
      ]

  abbrev too_large : List CheckRefusal
  too_large = refusal_if (nat_lt 16384 (program_size p)) (refusal.CoreTooLarge (program_size p))

  -- each refusal is a broken rule
  pub sound : (r : CheckRefusal) → In r (program_faults p) → Broken p (rule r) (number r)
  sound r i =
      elim (in_cases r (cons_faults k 0 none p.constructors)
      (functions_faults k [] 0 none p.functions
      ++ (lacks_faults k p.constructors p.functions ++ too_large)) i) [
        | inl a ↦ cons_broken r a
        | inr b ↦ elim
            (in_cases r (functions_faults k [] 0 none p.functions)
            (lacks_faults k p.constructors p.functions ++ too_large) b) [
              | inl a ↦ funs_broken r a
              | inr c ↦ elim (in_cases r (lacks_faults k p.constructors p.functions) too_large c) [
                | inl a ↦ lacks_broken r a
                | inr a ↦
                    let n = from_noted (nat_lt 16384 (program_size p))
                    (refusal.CoreTooLarge (program_size p)) r a in
                    retag (refusal.CoreTooLarge (program_size p)) r n.is
                    (broken.CoreTooLarge (ltb-true 16384 (program_size p) n.holds))
              ]
            ]
      ]

  -- ---- and each broken rule is among them
  abbrev Met : CheckRefusal → Type 0
  Met r = In r (program_faults p)

  met_con : (r : CheckRefusal) → In r (walked (λ (d : Data). d.name) con_step 0 none p.constructors)
      → Met r
  met_con r i = in_left
      (functions_faults k [] 0 none p.functions ++
      (lacks_faults k p.constructors p.functions ++ too_large))
      (subst (In r) (sym (cons_walked 0 none p.constructors)) i)

  met_fun : (r : CheckRefusal) → In r
      (walked (λ (f : Function). f.name) fun_step 0 none p.functions) → Met r
  met_fun r i = in_right (cons_faults k 0 none p.constructors)
      (in_left (lacks_faults k p.constructors p.functions ++ too_large)
      (subst (In r) (sym (funs_walked 0 none p.functions)) i))

  met_lack : (r : CheckRefusal) → In r (lacks_faults k p.constructors p.functions) → Met r
  met_lack r i = in_right (cons_faults k 0 none p.constructors)
      (in_right (functions_faults k [] 0 none p.functions) (in_left too_large i))

  met_body : (r : CheckRefusal) (i : ℕ) (f : Function) → slice_get p.functions i ≡ Some f
      → In r (body_faults k [] f) → Met r
  met_body r i f is j = met_fun r
      (to_walked (λ (f : Function). f.name) fun_step r 0 none p.functions i f is
      (λ b. in_right (header_faults k (0 + i) (λ x. b) f) j))

  met_piece : (r : CheckRefusal) (t : Scope) (piece : FunctionPart) → InFunction p t piece
      → In r (piece_faults p r t piece) → Met r
  met_piece r t piece f i =
      met_body r f.number f.function f.is (in_right (binders_faults k none f.function.params)
      (subst (λ q. In r (expr_faults k q f.function.body))
      (sym (entered_within p f.function.params [])) (to_expr p r f.has i)))

  met_binders : (r : CheckRefusal) {xs : List Binder} → BinderList p xs
      → In r (binders_faults k none xs) → Met r
  met_binders r (OfFunction {f = f} i is) j = met_body r i f is
      (in_left (expr_faults k (all_entered k f.params []) f.body) j)
  met_binders r (OfGroup {t = t} {group = group} f) j = met_piece r t (AGroup group) f j
  met_binders r (OfPattern {t = t} {alts = alts} {pat = pat} i f is) j
      = met_piece r t (SomeAlts alts) f
      (in_right (patterns_faults k no_patterns alts) (to_bound p r alts i pat is j))

  met_pattern : (r : CheckRefusal) (t : Scope) (alts : Alts) (i : ℕ) (pat : Pattern)
      → InFunction p t (SomeAlts alts) → alt_at alts i ≡ Some pat
      → In r (pattern_faults k (state no_patterns alts i) (last_at alts i) pat) → Met r
  met_pattern r t alts i pat f is j = met_piece r t (SomeAlts alts) f
      (in_left (bound_faults p r alts) (to_patterns k r no_patterns alts i pat is j))

  met_atom : (r : CheckRefusal) (t : Scope) (h : Term) (n : ℕ) → StandsApplied p t h n
      → In r (atom_faults k t r h n) → Met r
  met_atom r t h n u i = met_piece r t (AnApp u.0) u.1 (to_app k t r u.0 h n u.2 i)

  met_mixed : (t : Scope) (alts : Alts) (q r : Pattern) (i j : ℕ) → InFunction p t (SomeAlts alts)
      → IsFirstNonDefault alts i q → i < j → alt_at alts j ≡ Some r → KindsDiffer q r
      → Met (refusal.MixedAlternatives (pattern_place r))
  met_mixed t alts (pattern.Con c xs) (pattern.Int m at) i j f first l is d =
      let s = state no_patterns alts j in
      let e : s.is_con ≡ Some true = to_kind no_patterns alts i j (pattern.Con c xs) true refl first
      l refl in
      met_pattern (refusal.MixedAlternatives at) t alts j (pattern.Int m at) f is
      (in_right (refusal_if (s.ints m) (refusal.DuplicateAlternative at))
      (to_noted (mixes_kinds s.is_con false) (refusal.MixedAlternatives at)
      (ap (λ o. mixes_kinds o false) e)))
  met_mixed t alts (pattern.Int m at) (pattern.Con c xs) i j f first l is d =
      let s = state no_patterns alts j in
      let e : s.is_con ≡ Some false = to_kind no_patterns alts i j (pattern.Int m at) false refl
      first l refl in
      met_pattern (refusal.MixedAlternatives c.at) t alts j (pattern.Con c xs) f is
      (in_right (arity_faults (k.fields c.name.0) c.at (length xs))
      (in_right (refusal_if (s.cons c.name.0) (refusal.DuplicateAlternative c.at))
      (to_noted (mixes_kinds s.is_con true) (refusal.MixedAlternatives c.at)
      (ap (λ o. mixes_kinds o true) e))))
  met_mixed t alts (pattern.Con c xs) (pattern.Con d ys) i j f first l is h = elim h [ ]
  met_mixed t alts (pattern.Con c xs) (pattern.Default x) i j f first l is h = elim h [ ]
  met_mixed t alts (pattern.Int m at) (pattern.Int n at') i j f first l is h = elim h [ ]
  met_mixed t alts (pattern.Int m at) (pattern.Default x) i j f first l is h = elim h [ ]
  met_mixed t alts (pattern.Default x) r i j f first l is h = elim h [ ]

  -- a refusal with this rule and place was met
  pub record Listed (n at : ℕ) : Type 0 where
    pub refusal : CheckRefusal
    pub met : In refusal (program_faults p)
    pub rule_is : rule refusal ≡ n
    pub number_is : number refusal ≡ at

  listed : (r : CheckRefusal) → Met r → Listed (rule r) (number r)
  listed r i = record { refusal = r; met = i; rule_is = refl; number_is = refl }

  abbrev later_con : ℕ → Bool → Data → List CheckRefusal
  later_con i b d = refusal_if (nat_lt 12 d.fields) (refusal.TooManyFields d.at)
      ++ refusal_if (int_kind (k.kind d.name)) (refusal.ReservedName d.at)

  pub complete : {n at : ℕ} → Broken p n at → Listed n at
  complete (broken.DuplicateConstructor {i = i} {j = j} {c = c} {d = d} l e f s) =
      listed (refusal.DuplicateConstructor d.at) (met_con (refusal.DuplicateConstructor d.at)
      (to_walked_again (λ (d : Data). d.name) con_step (refusal.DuplicateConstructor d.at) 0 none
      p.constructors i j c d l e f s
      (in_right (refusal_if (0 + j == 1024) (refusal.TooManyConstructors d.at))
      (in_left (later_con j true d) (to_noted true (refusal.DuplicateConstructor d.at) refl)))))
  complete (broken.DuplicateFunction {i = i} {j = j} {f = f} {g = g} l e h s) =
      listed (refusal.DuplicateFunction g.at) (met_fun (refusal.DuplicateFunction g.at)
      (to_walked_again (λ (f : Function). f.name) fun_step (refusal.DuplicateFunction g.at) 0 none
      p.functions i j f g l e h s
      (in_left (body_faults k [] g)
      (in_right (refusal_if (0 + j == 4096) (refusal.TooManyFunctions g.at))
      (in_left _ (to_noted true (refusal.DuplicateFunction g.at) refl))))))
  complete (broken.DuplicateName {xs = xs} {at = at} bl w)
      = listed (refusal.DuplicateName at)
      (met_binders (refusal.DuplicateName at) bl (to_repeats xs at w))
  complete (broken.UnknownName {t = t} {x = x} {at = at} {k = n} u e) =
      listed (refusal.UnknownName at)
      (met_atom (refusal.UnknownName at) t (Name x at) n u
      (subst (λ m. In (refusal.UnknownName at) (meaning_faults m at n))
      (sym (meaning_means p t x ∙ e)) here))
  complete (broken.UnknownConstructor {t = t} {c = c} {at = at} {k = n} u e)
      = listed (refusal.UnknownName at)
      (met_atom (refusal.UnknownName at) t (Con c at) n u (to_unknown c at n e))
  complete (broken.UnknownPattern {t = t} {alts = alts} {c = c} {fields = fields} i f is e) =
      listed (refusal.UnknownName c.at)
      (met_pattern (refusal.UnknownName c.at) t alts i (pattern.Con c fields) f is
      (in_left _ (to_unknown c.name.0 c.at (length fields) e)))
  complete (broken.ConstructorArity {t = t} {c = c} {at = at} {k = n} {d = d} u e h)
      = listed (refusal.ConstructorArity at)
      (met_atom (refusal.ConstructorArity at) t (Con c at) n u (to_wrong c at n d e h))
  complete (broken.PatternArity {t = t} {alts = alts} {c = c} {fields = fields} {d = d} i f is e h)
      =
      listed (refusal.ConstructorArity c.at)
      (met_pattern (refusal.ConstructorArity c.at) t alts i (pattern.Con c fields) f is
      (in_left _ (to_wrong c.name.0 c.at (length fields) d e h)))
  complete (broken.DefaultNotLast {t = t} {alts = alts} {x = x} {next = next} i f is e) =
      let s : i + 1 ≡ suc i = omega arith in
      listed (refusal.DefaultNotLast x.at)
      (met_pattern (refusal.DefaultNotLast x.at) t alts i (pattern.Default x) f is
      (to_noted (not (last_at alts i)) (refusal.DefaultNotLast x.at)
      (true_not (last_at alts i)
      (to_last alts i next (subst (λ n. alt_at alts n ≡ Some next) s e)))))
  complete (broken.DuplicateCon {t = t} {alts = alts} {c = c} {d = d} {xs = xs} {ys = ys} i j f l e
      g s) =
      listed (refusal.DuplicateAlternative d.at)
      (met_pattern (refusal.DuplicateAlternative d.at) t alts j (pattern.Con d ys) f g
      (in_right (arity_faults (k.fields d.name.0) d.at (length ys))
      (in_left _
      (to_noted ((state no_patterns alts j).cons d.name.0) (refusal.DuplicateAlternative d.at)
      (to_con no_patterns alts i j d.name.0 c xs l e (sym s))))))
  complete (broken.DuplicateInt {t = t} {alts = alts} {k = m} {at = at} {at' = at'} i j f l e g) =
      listed (refusal.DuplicateAlternative at')
      (met_pattern (refusal.DuplicateAlternative at') t alts j (pattern.Int m at') f g
      (in_left _
      (to_noted ((state no_patterns alts j).ints m) (refusal.DuplicateAlternative at')
      (to_int no_patterns alts i j m at l e))))
  complete (broken.MixedAlternatives {t = t} {alts = alts} {q = q} {r = r} i j f first l e d)
      = listed (refusal.MixedAlternatives (pattern_place r))
      (met_mixed t alts q r i j f first l e d)
  complete (broken.ReservedBinder {xs = xs} {x = x} {q = q} i n bl e h s) =
      listed (refusal.ReservedName x.at)
      (met_binders (refusal.ReservedName x.at) bl
      (to_reserves xs i x e (to_reserved p x.name.0 n q h s)))
  complete (broken.ReservedFunction {f = f} {q = q} i n e h s) =
      listed (refusal.ReservedName f.at)
      (met_fun (refusal.ReservedName f.at)
      (to_walked (λ (f : Function). f.name) fun_step (refusal.ReservedName f.at) 0 none
      p.functions i f e (λ b.
      in_left (body_faults k [] f)
      (in_right (refusal_if (0 + i == 4096) (refusal.TooManyFunctions f.at))
      (in_right (refusal_if b (refusal.DuplicateFunction f.at))
      (in_right (refusal_if (nat_lt 12 (length f.params)) (refusal.TooManyParameters f.at))
      (in_left _
      (to_noted (is_reserved k f.name) (refusal.ReservedName f.at)
      (to_reserved p f.name n q h s)))))))))
  complete (broken.ReservedConstructor {d = d} i e h) =
      listed (refusal.ReservedName d.at)
      (met_con (refusal.ReservedName d.at)
      (to_walked (λ (d : Data). d.name) con_step (refusal.ReservedName d.at) 0 none
      p.constructors i d e (λ b.
      in_right (refusal_if (0 + i == 1024) (refusal.TooManyConstructors d.at))
      (in_right (refusal_if b (refusal.DuplicateConstructor d.at))
      (in_right (refusal_if (nat_lt 12 d.fields) (refusal.TooManyFields d.at))
      (to_noted (int_kind (k.kind d.name)) (refusal.ReservedName d.at)
      (int_named p d.name ∙ h)))))))
  complete (broken.PrimitiveArity {t = t} {x = x} {at = at} {k = n} {op = op} u e h) =
      listed (refusal.PrimitiveArity at) (met_atom (refusal.PrimitiveArity at) t (Name x at) n u
      (subst (λ m. In (refusal.PrimitiveArity at) (meaning_faults m at n))
      (sym (meaning_means p t x ∙ e))
      (to_noted (not (n == 2)) (refusal.PrimitiveArity at) (to_differ n 2 h))))
  complete (broken.NoMain h) =
      listed refusal.NoMain
      (met_lack refusal.NoMain
      (in_left _
      (to_noted (not (has_main k p.functions)) refusal.NoMain
      (elim (two_ways (has_main k p.functions)) [
        | inl e ↦
            (let w = from_any main_test p.functions e
            in true_not_false (sym w.passes ∙ main_named p w.item.name ∙ h w.i w.item w.is))
        | inr e ↦ true_not (has_main k p.functions) e
      ]))))
  complete (broken.MainHasParameters {f = f} i e s l) =
      listed (refusal.MainHasParameters f.at)
      (met_fun (refusal.MainHasParameters f.at)
      (to_walked (λ (f : Function). f.name) fun_step (refusal.MainHasParameters f.at) 0 none
      p.functions i f e (λ b.
      in_left (body_faults k [] f)
      (in_right (refusal_if (0 + i == 4096) (refusal.TooManyFunctions f.at))
      (in_right (refusal_if b (refusal.DuplicateFunction f.at))
      (in_right (refusal_if (nat_lt 12 (length f.params)) (refusal.TooManyParameters f.at))
      (in_right (refusal_if (is_reserved k f.name) (refusal.ReservedName f.at))
      (to_noted (main_kind (k.kind f.name) && nat_lt 1 (length f.params))
      (refusal.MainHasParameters f.at)
      (and_from (main_kind (k.kind f.name)) (nat_lt 1 (length f.params)) (main_named p f.name ∙ s)
      (lt-ltb 1 (length f.params) l))))))))))
  complete (broken.NoListConstructors h) =
      listed refusal.NoListConstructors
      (met_lack refusal.NoListConstructors
      (in_right (refusal_if (not (has_main k p.functions)) refusal.NoMain)
      (to_noted (not (has_nil k p.constructors && has_cons k p.constructors))
      refusal.NoListConstructors
      (elim (two_ways (has_nil k p.constructors && has_cons k p.constructors)) [
        | inl e ↦
            (let w = and_parts (has_nil k p.constructors) (has_cons k p.constructors) e
            in absurd (h (nil_declares w.0, cons_declares w.1)))
        | inr e ↦ true_not (has_nil k p.constructors && has_cons k p.constructors) e
      ]))))
  complete (broken.TooManyFunctions {f = f} e) =
      listed (refusal.TooManyFunctions f.at)
      (met_fun (refusal.TooManyFunctions f.at)
      (to_walked (λ (f : Function). f.name) fun_step (refusal.TooManyFunctions f.at) 0 none
      p.functions 4096 f e
      (λ b. in_left (body_faults k [] f)
      (in_left _ (to_noted (0 + 4096 == 4096) (refusal.TooManyFunctions f.at) refl)))))
  complete (broken.TooManyConstructors {d = d} e) =
      listed (refusal.TooManyConstructors d.at)
      (met_con (refusal.TooManyConstructors d.at)
      (to_walked (λ (d : Data). d.name) con_step (refusal.TooManyConstructors d.at) 0 none
      p.constructors 1024 d e
      (λ b. in_left _ (to_noted (0 + 1024 == 1024) (refusal.TooManyConstructors d.at) refl))))
  complete (broken.TooManyParameters {f = f} i e l) =
      listed (refusal.TooManyParameters f.at)
      (met_fun (refusal.TooManyParameters f.at)
      (to_walked (λ (f : Function). f.name) fun_step (refusal.TooManyParameters f.at) 0 none
      p.functions i f e (λ b.
      in_left (body_faults k [] f)
      (in_right (refusal_if (0 + i == 4096) (refusal.TooManyFunctions f.at))
      (in_right (refusal_if b (refusal.DuplicateFunction f.at))
      (in_left _
      (to_noted (nat_lt 12 (length f.params)) (refusal.TooManyParameters f.at)
      (lt-ltb 12 (length f.params) l))))))))
  complete (broken.TooManyArguments {t = t} {app = app} {inner = inner} f c l) =
      let r : CheckRefusal = refusal.TooManyParameters (broken.place inner.head) in
      listed r (met_piece r t (AnApp app) f
      (to_contains k t r c
      (to_noted (nat_lt 12 (count inner.args)) r (lt-ltb 12 (count inner.args) l)) 0))
  complete (broken.TooManyFields {d = d} i e l) =
      listed (refusal.TooManyFields d.at)
      (met_con (refusal.TooManyFields d.at)
      (to_walked (λ (d : Data). d.name) con_step (refusal.TooManyFields d.at) 0 none
      p.constructors i d e (λ b.
      in_right (refusal_if (0 + i == 1024) (refusal.TooManyConstructors d.at))
      (in_right (refusal_if b (refusal.DuplicateConstructor d.at))
      (in_left _
      (to_noted (nat_lt 12 d.fields) (refusal.TooManyFields d.at) (lt-ltb 12 d.fields l)))))))
  complete (broken.CoreTooLarge l) =
      listed (refusal.CoreTooLarge (program_size p))
      (in_right (cons_faults k 0 none p.constructors)
      (in_right (functions_faults k [] 0 none p.functions)
      (in_right (lacks_faults k p.constructors p.functions)
      (to_noted (nat_lt 16384 (program_size p)) (refusal.CoreTooLarge (program_size p))
      (lt-ltb 16384 (program_size p) l)))))
