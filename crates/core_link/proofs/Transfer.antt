-- Where a program breaks none of certain rules, one with other names breaks none of them.
use Rattle.std.proofs.Common.{◌≡◌, ℕ, ◌+◌, ◌*◌, ◌<◌, Bool, true, false, List, [], ◌∷◌, length, refl, sym, ap, subst, ◌∙◌, arith, Some, ◌⊎◌, inl, inr}
use Rattle.std.specs.Prelude.{◌≢◌, ◌==◌, ℤ, codes, slice_get, sum_by, if◌then◌else◌}
use Rattle.std.specs.List.{AllZip}
use Rattle.std.proofs.lemmas.Bool.{eqb-true, eq-eqb}
use Rattle.std.proofs.lemmas.List.Elements.{length_all_zip}
use Rattle.std.proofs.lemmas.List.Sums.{sum_by-cons}
use Rattle.seq.proofs.Truth.{both_ways}
use Rattle.core_reader.specs.declared.syntax.Binder.{Binder}
use Rattle.core_reader.specs.declared.syntax.Pattern.{Pattern}
use Rattle.core_reader.specs.declared.syntax.Pattern.TheVariants as pattern
use Rattle.core_reader.specs.Size.{term_size, terms_size, bind_size, pattern_size, expr_size, alts_size, function_size, program_size}
use Rattle.core_reader.specs.Tree as tree
use Rattle.core_reader.specs.Tree.{Term, Terms, NoTerms, AndTerm, Application, Bind, Expr, App, Let, Case, Alts, NoAlts, AndAlt, Data, Function, Program}
use Rattle.core_print.specs.Renamed.{RenamedBinder, RenamedTerm, RenamedTerms, RenamedApp, RenamedBind, RenamedPattern, RenamedExpr, RenamedAlts, RenamedData, RenamedFunction, behind}
use Rattle.arity_check.specs.Accepted.{BreaksNoRule}
use Rattle.arity_check.specs.Broken as broken
use Rattle.arity_check.specs.Broken.{first_constructor_named}
use Rattle.arity_check.specs.Pieces.{FunctionPart, StandsApplied, AnApp, AGroup, SomeAlts, binders_of, bound_by, within, InFunction}
use Rattle.arity_check.specs.BinderLists.{BinderList, OfFunction, OfGroup, OfPattern, Repeats}
use Rattle.arity_check.specs.Standing.{HeadIsApplied, Contains, count, place}
use Rattle.arity_check.specs.Patterns.{alt_at, IsDefault, KindsDiffer, IsFirstNonDefault, pattern_place}
use Rattle.arity_check.specs.declared.normal.PrimOp.{PrimOp}
use Rattle.arity_check.specs.declared.meaning.Meaning.TheVariants.{Primitive}
use Rattle.arity_check.specs.Scope.{Scope, means, is_named}
use Rattle.core_link.specs.Laws.{IsRuleOfNames}
use Rattle.core_link.proofs.Back.{StandsLike, stands_like, ContainsLike, contains_back, count_like, alt_back, alt_onward, LikePiece, HasLike, has_back, group_binders, bound_like}
use Rattle.arity_check.proofs.Names.{first_place}
use Rattle.core_link.proofs.Agrees.{named_is}
use Rattle.core_link.proofs.Beside.{beside, beside_back}
use Rattle.core_link.proofs.Shapes.{name_before, con_before, app_before, group_before, alts_before, con_pattern_before}

-- two programs, and how their names go together
module _ (p q : Program) {S : Type 0} (enter : List Binder → List Binder → S → S)
    (OfBinder OfCon : ℕ → ℕ → Type 0) (OfUse : S → ℕ → ℕ → Type 0) (OfFunctionName : ℕ → ℕ → Type 0)
    (start : S) where
  abbrev Fits : S → Scope → Scope → Type 0
  Fits c s t = Unit {0}

  -- Names that go together are one where the others are one; `_`, `main`, primitives and the texts
  -- of constructors are the same.
  pub record GoTogether : Type 0 where
    pub constructors : AllZip (RenamedData enter OfBinder OfCon OfUse) p.constructors q.constructors
    pub functions : AllZip (RenamedFunction enter OfBinder OfCon OfUse OfFunctionName start)
        p.functions q.functions
    pub binders : (n k n' k' : ℕ) → OfBinder n k → OfBinder n' k' → k ≡ k' → n ≡ n'
    pub nameless : (n k : ℕ) → OfBinder n k → is_named p (codes "_") n ≡ is_named q (codes "_") k
    pub cons : (n k n' k' : ℕ) → OfCon n k → OfCon n' k' → (k ≡ k' → n ≡ n') × (n ≡ n' → k ≡ k')
    pub con_text : (n k : ℕ) (w : List ℕ) → OfCon n k → is_named p w n ≡ is_named q w k
    pub main : (n k : ℕ) → OfFunctionName n k → is_named p (codes "main") n ≡ is_named q
        (codes "main") k
    pub primitive : (c : S) (s t : Scope) (n k : ℕ) (op : PrimOp) → OfUse c n k
        → means q t k ≡ Primitive op → means p s n ≡ Primitive op

  module _ (go : GoTogether) (ok : BreaksNoRule p) where
    abbrev RBinder : Binder → Binder → Type 0
    RBinder = RenamedBinder enter OfBinder OfCon OfUse

    abbrev RPattern : Pattern → Pattern → Type 0
    RPattern = RenamedPattern enter OfBinder OfCon OfUse

    abbrev RData : Data → Data → Type 0
    RData = RenamedData enter OfBinder OfCon OfUse

    abbrev RFunction : Function → Function → Type 0
    RFunction = RenamedFunction enter OfBinder OfCon OfUse OfFunctionName start

    -- ---- pieces

    record From (there : FunctionPart) : Type 0 where
      context : S
      scope : Scope
      piece : FunctionPart
      inside : InFunction p scope piece
      like : LikePiece p q enter OfBinder OfCon OfUse Fits context piece there

    from : (t : Scope) (there : FunctionPart) → InFunction q t there → From there
    from t there h =
        let f = beside_back RFunction p.functions q.functions go.functions h.number h.function h.is
        in
        let b : HasLike p q enter OfBinder OfCon OfUse Fits (within p f.0.params []) f.0.body t
        there =
        has_back p q enter OfBinder OfCon OfUse Fits (λ c s t bs cs z h. tt) h.has
        (enter f.0.params h.function.params start) (within p f.0.params []) f.0.body tt f.2.2 in
        record {
          context = b.context;
          scope = b.scope;
          piece = b.piece;
          inside
              = record { number = h.number; function = f.0; is = f.1; has = b.has };
          like = b.like;
        }

    record FromApp (app : Application) : Type 0 where
      context : S
      scope : Scope
      before : Application
      inside : InFunction p scope (AnApp before)
      like : RenamedApp enter OfBinder OfCon OfUse context before app

    from_app : (t : Scope) (app : Application) → InFunction q t (AnApp app) → FromApp app
    from_app t app h =
        let w = from t (AnApp app) h in
        let a = app_before p q enter OfBinder OfCon OfUse Fits w.context w.piece app w.like in
        record {
          context = w.context;
          scope = w.scope;
          before = a.0;
          inside
              = subst (InFunction p w.scope) a.1 w.inside;
          like = a.2;
        }

    record FromAlts (alts : Alts) : Type 0 where
      context : S
      scope : Scope
      before : Alts
      inside : InFunction p scope (SomeAlts before)
      like : RenamedAlts enter OfBinder OfCon OfUse context before alts

    from_alts : (t : Scope) (alts : Alts) → InFunction q t (SomeAlts alts) → FromAlts alts
    from_alts t alts h =
        let w = from t (SomeAlts alts) h in
        let a = alts_before p q enter OfBinder OfCon OfUse Fits w.context w.piece alts w.like in
        record {
          context = w.context;
          scope = w.scope;
          before = a.0;
          inside
              = subst (InFunction p w.scope) a.1 w.inside;
          like = a.2;
        }

    pattern_from : (alts : Alts) (w : FromAlts alts) (i : ℕ) (b : Pattern) → alt_at alts i ≡ Some b
        → (a : Pattern) × (alt_at w.before i ≡ Some a) × RPattern a b
    pattern_from alts w i b e = alt_back p q enter OfBinder OfCon OfUse Fits w.context alts i b e
        w.before w.like

    -- ---- constructors

    fields_by : (n k : ℕ) → OfCon n k → (ds es : List Data) → AllZip RData ds es → (e : Data)
        → first_constructor_named k es ≡ Some e → (d : Data)
        × (first_constructor_named n ds ≡ Some d) × RData d e
    fields_by n k o [] [] z e f = absurd cc
    fields_by n k o [] (y ∷ es) z e f = absurd z
    fields_by n k o (x ∷ ds) [] z e f = absurd z
    fields_by n k o (x ∷ ds) (y ∷ es) z e f = by (x.name == n) (y.name == k) same f
        (fields_by n k o ds es z.1 e)
      where
        same : (x.name == n) ≡ (y.name == k)
        same = both_ways (x.name == n) (y.name == k)
            (λ h. eq-eqb y.name k ((go.cons x.name y.name n k z.0.0 o).1 (eqb-true x.name n h)))
            (λ h. eq-eqb x.name n ((go.cons x.name y.name n k z.0.0 o).0 (eqb-true y.name k h)))

        by : (b b' : Bool) → b ≡ b' → (if b' then Some y else first_constructor_named k es) ≡ Some e
            → (first_constructor_named k es ≡ Some e → (d : Data)
            × (first_constructor_named n ds ≡ Some d) × RData d e)
            → (d : Data) × ((if b then Some x else first_constructor_named n ds) ≡ Some d)
            × RData d e
        by true true h f rest = let s : y ≡ e = cc in (x, refl, subst (RData x) s z.0)
        by true false h f rest = absurd cc
        by false true h f rest = absurd cc
        by false false h f rest = rest f

    fields_back : (n k : ℕ) → OfCon n k → (e : Data)
        → first_constructor_named k q.constructors ≡ Some e → (d : Data)
        × (first_constructor_named n p.constructors ≡ Some d) × RData d e
    fields_back n k o e f = fields_by n k o p.constructors q.constructors go.constructors e f

    -- ---- the rules

    list_back : (xs : List Binder) → BinderList q xs → (bs : List Binder) × BinderList p bs
        × AllZip RBinder bs xs
    list_back xs (OfFunction {f = g} i e) = let w = beside_back RFunction p.functions q.functions
        go.functions i g e in (w.0.params, OfFunction i w.1, w.2.1)
    list_back xs (OfGroup {t = t} {group = others} h) =
        let w = from t (AGroup others) h in
        let a = group_before p q enter OfBinder OfCon OfUse Fits w.context w.piece others w.like in (
          binders_of a.0,
          OfGroup (subst (InFunction p w.scope) a.1 w.inside),
          group_binders p q enter OfBinder OfCon OfUse Fits
              (enter (binders_of a.0) (binders_of others) w.context) a.0 others a.2,
        )
    list_back xs (OfPattern {t = t} {alts = alts} {pat = pat} i h e) =
        let w = from_alts t alts h in
        let a = pattern_from alts w i pat e in (
          bound_by a.0,
          OfPattern i w.inside a.1,
          bound_like p q enter OfBinder OfCon OfUse Fits a.0
              pat a.2,
        )

    no_duplicate_name : (xs : List Binder) (at : ℕ) → BinderList q xs → Repeats q xs at → ⊥
    no_duplicate_name xs at list r =
        let l = list_back xs list in
        let a = beside_back RBinder l.0 xs l.2 r.i r.first r.is_first in
        let b = beside_back RBinder l.0 xs l.2 r.j r.second r.is_second in
        ok 13 b.0.at (broken.DuplicateName l.1 (record {
          i = r.i;
          j = r.j;
          first = a.0;
          second = b.0;
          before = r.before;
          is_first = a.1;
          is_second = b.1;
          same = go.binders b.0.name.0 r.second.name.0 a.0.name.0 r.first.name.0 b.2 a.2 r.same;
          named = go.nameless b.0.name.0 r.second.name.0 b.2 ∙ r.named;
          here = refl;
        }))

    record UsedCon (x k : ℕ) : Type 0 where
      scope : Scope
      con : ℕ
      at : ℕ
      used : StandsApplied p scope (tree.Con con at) k
      like : OfCon con x

    used_con : (t : Scope) (x at k : ℕ) → StandsApplied q t (tree.Con x at) k → UsedCon x k
    used_con t x at k h =
        let w = from_app t h.0 h.1 in
        let u : StandsLike p q enter OfBinder OfCon OfUse Fits w.context w.before.head w.before.args
        (tree.Con x at) k = stands_like p q enter OfBinder OfCon OfUse Fits w.context w.before
        h.0 (tree.Con x at) k w.like h.2 in
        let v = con_before p q enter OfBinder OfCon OfUse Fits w.context u.head x at u.like in
        record {
          scope = w.scope;
          con = v.0;
          at = v.1;
          used
              = (
                w.before,
                w.inside,
                subst (λ y. HeadIsApplied w.before.head w.before.args y k) v.2
                    u.stands,
              );
          like = v.3;
        }

    no_constructor_arity : (t : Scope) (x at k : ℕ) (e : Data) → StandsApplied q t (tree.Con x at) k
        → first_constructor_named x q.constructors ≡ Some e → k ≢ e.fields → ⊥
    no_constructor_arity t x at k e h f differ =
        let w = used_con t x at k h in
        let d = fields_back w.con x w.like e f in
        ok 15 w.at (broken.ConstructorArity w.used d.1 (λ s. differ (s ∙ d.2.1)))

    no_pattern_arity : (t : Scope) (alts : Alts) (c : Binder) (fields : List Binder) (e : Data)
        (i : ℕ) → InFunction q t (SomeAlts alts) → alt_at alts i ≡ Some (pattern.Con c fields)
        → first_constructor_named c.name.0 q.constructors ≡ Some e → length fields ≢ e.fields → ⊥
    no_pattern_arity t alts c fields e i h at f differ =
        let w = from_alts t alts h in
        let a = pattern_from alts w i (pattern.Con c fields) at in
        let v = con_pattern_before p q enter OfBinder OfCon OfUse Fits a.0 c fields a.2 in
        let d = fields_back v.0.name.0 c.name.0 v.3 e f in
        ok 15 v.0.at
        (broken.PatternArity i w.inside (a.1 ∙ ap (λ y. Some y) v.2) d.1
        (λ s. differ (sym (length_all_zip RBinder v.1 fields v.4) ∙ s ∙ d.2.1)))

    default_before : (a : Pattern) (y : Binder) → RPattern a (pattern.Default y) → (x : Binder)
        × (a ≡ pattern.Default x)
    default_before (pattern.Default x) y r = (x, refl)
    default_before a y r = absurd r

    int_before : (a : Pattern) (j : ℤ) (to : ℕ) → RPattern a (pattern.Int j to) → (at : ℕ)
        × (a ≡ pattern.Int j at)
    int_before (pattern.Int k at) j to r = (at, ap (λ v. pattern.Int v at) r)
    int_before a j to r = absurd r

    no_default_before : (t : Scope) (alts : Alts) (y : Binder) (next : Pattern) (i : ℕ)
        → InFunction q t (SomeAlts alts) → alt_at alts i ≡ Some (pattern.Default y)
        → alt_at alts (i + 1) ≡ Some next → ⊥
    no_default_before t alts y next i h e f =
        let w = from_alts t alts h in
        let a = pattern_from alts w i (pattern.Default y) e in
        let b = pattern_from alts w (i + 1) next f in
        let v = default_before a.0 y a.2 in
        ok 16 v.0.at (broken.DefaultNotLast i w.inside (a.1 ∙ ap (λ z. Some z) v.1) b.1)

    no_duplicate_con : (t : Scope) (alts : Alts) (c d : Binder) (xs ys : List Binder) (i j : ℕ)
        → InFunction q t (SomeAlts alts) → i < j → alt_at alts i ≡ Some (pattern.Con c xs)
        → alt_at alts j ≡ Some (pattern.Con d ys) → d.name.0 ≡ c.name.0 → ⊥
    no_duplicate_con t alts c d xs ys i j h l e f same =
        let w = from_alts t alts h in
        let a = pattern_from alts w i (pattern.Con c xs) e in
        let b = pattern_from alts w j (pattern.Con d ys) f in
        let u = con_pattern_before p q enter OfBinder OfCon OfUse Fits a.0 c xs a.2 in
        let v = con_pattern_before p q enter OfBinder OfCon OfUse Fits b.0 d ys b.2 in
        ok 17 v.0.at
        (broken.DuplicateCon i j w.inside l (a.1 ∙ ap (λ z. Some z) u.2)
        (b.1 ∙ ap (λ z. Some z) v.2)
        ((go.cons v.0.name.0 d.name.0 u.0.name.0 c.name.0 v.3 u.3).0 same))

    no_duplicate_int : (t : Scope) (alts : Alts) (k : ℤ) (at at' i j : ℕ)
        → InFunction q t (SomeAlts alts) → i < j → alt_at alts i ≡ Some (pattern.Int k at)
        → alt_at alts j ≡ Some (pattern.Int k at') → ⊥
    no_duplicate_int t alts k at at' i j h l e f =
        let w = from_alts t alts h in
        let a = pattern_from alts w i (pattern.Int k at) e in
        let b = pattern_from alts w j (pattern.Int k at') f in
        let u = int_before a.0 k at a.2 in
        let v = int_before b.0 k at' b.2 in
        ok 17 v.0
        (broken.DuplicateInt i j w.inside l (a.1 ∙ ap (λ z. Some z) u.1)
        (b.1 ∙ ap (λ z. Some z) v.1))

    default_back : (a b : Pattern) → RPattern a b → IsDefault b → IsDefault a
    default_back (pattern.Default x) b r h = tt
    default_back (pattern.Con c xs) (pattern.Con d ys) r h = h
    default_back (pattern.Con c xs) b r h = absurd r
    default_back (pattern.Int k at) (pattern.Int j to) r h = h
    default_back (pattern.Int k at) b r h = absurd r

    default_onward : (a b : Pattern) → RPattern a b → IsDefault a → IsDefault b
    default_onward (pattern.Default x) (pattern.Default y) r h = tt
    default_onward (pattern.Default x) b r h = absurd r
    default_onward (pattern.Con c xs) b r h = absurd h
    default_onward (pattern.Int k at) b r h = absurd h

    differs_back : (a b a' b' : Pattern) → RPattern a a' → RPattern b b' → KindsDiffer a' b'
        → KindsDiffer a b
    differs_back (pattern.Con c xs) (pattern.Con d ys) (pattern.Con c' xs') (pattern.Con d' ys') r s
        h = h
    differs_back (pattern.Con c xs) (pattern.Con d ys) (pattern.Con c' xs') b' r s h = absurd s
    differs_back (pattern.Con c xs) (pattern.Int k at) a' b' r s h = tt
    differs_back (pattern.Con c xs) (pattern.Default y) (pattern.Con c' xs') (pattern.Default y') r
        s h = h
    differs_back (pattern.Con c xs) (pattern.Default y) (pattern.Con c' xs') b' r s h = absurd s
    differs_back (pattern.Con c xs) b a' b' r s h = absurd r
    differs_back (pattern.Int k at) (pattern.Con d ys) a' b' r s h = tt
    differs_back (pattern.Int k at) (pattern.Int j to) (pattern.Int k' at') (pattern.Int j' to') r s
        h = h
    differs_back (pattern.Int k at) (pattern.Int j to) (pattern.Int k' at') b' r s h = absurd s
    differs_back (pattern.Int k at) (pattern.Default y) (pattern.Int k' at') (pattern.Default y') r
        s h = h
    differs_back (pattern.Int k at) (pattern.Default y) (pattern.Int k' at') b' r s h = absurd s
    differs_back (pattern.Int k at) b a' b' r s h = absurd r
    differs_back (pattern.Default x) b (pattern.Default x') b' r s h = h
    differs_back (pattern.Default x) b a' b' r s h = absurd r

    no_mixed : (t : Scope) (alts : Alts) (b d : Pattern) (i j : ℕ) → InFunction q t (SomeAlts alts)
        → IsFirstNonDefault alts i b → i < j → alt_at alts j ≡ Some d → KindsDiffer b d → ⊥
    no_mixed t alts b d i j h first l e differ =
        let w = from_alts t alts h in
        let u = pattern_from alts w i b first.here in
        let v = pattern_from alts w j d e in
        let kind : IsFirstNonDefault w.before i u.0 = record {
          here = u.1;
          plain = λ z. first.plain (default_onward u.0 b u.2 z);
          before = λ k r m f.
              (let o = alt_onward p q enter OfBinder OfCon OfUse Fits w.context w.before k r f alts
              w.like in default_back r o.0 o.2 (first.before k o.0 m o.1));
        } in
        ok 18 (pattern_place v.0)
        (broken.MixedAlternatives i j w.inside kind l v.1
        (differs_back u.0 v.0 b d u.2 v.2 differ))

    no_main_parameters : (g : Function) (i : ℕ) → slice_get q.functions i ≡ Some g
        → is_named q (codes "main") g.name ≡ true → 1 < length g.params → ⊥
    no_main_parameters g i e h l =
        let w = beside_back RFunction p.functions q.functions go.functions i g e in
        let len = length_all_zip RBinder w.0.params g.params w.2.1 in
        ok 20 w.0.at
        (broken.MainHasParameters i w.1 (go.main w.0.name g.name w.2.0 ∙ h)
        (omega (arith, len, l)))

    fields_from : (n k : ℕ) → OfCon n k → (ds es : List Data) → AllZip RData ds es → (d : Data)
        → first_constructor_named n ds ≡ Some d → (e : Data)
        × (first_constructor_named k es ≡ Some e) × RData d e
    fields_from n k o [] es z d f = absurd cc
    fields_from n k o (x ∷ ds) [] z d f = absurd z
    fields_from n k o (x ∷ ds) (y ∷ es) z d f = by (x.name == n) (y.name == k) same f
        (fields_from n k o ds es z.1 d)
      where
        same : (x.name == n) ≡ (y.name == k)
        same = both_ways (x.name == n) (y.name == k)
            (λ h. eq-eqb y.name k ((go.cons x.name y.name n k z.0.0 o).1 (eqb-true x.name n h)))
            (λ h. eq-eqb x.name n ((go.cons x.name y.name n k z.0.0 o).0 (eqb-true y.name k h)))

        by : (b b' : Bool) → b ≡ b' → (if b then Some x else first_constructor_named n ds) ≡ Some d
            → (first_constructor_named n ds ≡ Some d → (e : Data)
            × (first_constructor_named k es ≡ Some e) × RData d e)
            → (e : Data) × ((if b' then Some y else first_constructor_named k es) ≡ Some e)
            × RData d e
        by true true h f rest = let s : x ≡ d = cc in (y, refl, subst (λ v. RData v y) s z.0)
        by true false h f rest = absurd cc
        by false true h f rest = absurd cc
        by false false h f rest = rest f

    declares_onward : (w : List ℕ) (fields : ℕ) → broken.Declares p w fields
        → broken.Declares q w fields
    declares_onward w fields h =
        let i = first_place h.0.name p.constructors h.0 h.1 in
        let k = beside RData p.constructors q.constructors go.constructors i.0 h.0 i.1 in
        let e = fields_from h.0.name k.0.name k.2.0 p.constructors q.constructors go.constructors
        h.0 h.1 in
        let named : e.0.name ≡ k.0.name = named_is k.0.name q.constructors e.0 e.1 in (
          e.0,
          ap (λ x. first_constructor_named x q.constructors) named ∙ e.1,
          sym (go.con_text h.0.name e.0.name w e.2.0) ∙ h.2,
          sym e.2.1 ∙ h.3,
        )

    no_list_constructors :
        (broken.Declares q (codes "Nil") 0 × broken.Declares q (codes "Cons") 2 → ⊥) → ⊥
    no_list_constructors h = ok 21 0
        (broken.NoListConstructors
        (λ d. h (declares_onward (codes "Nil") 0 d.0, declares_onward (codes "Cons") 2 d.1)))

    no_primitive_arity : (t : Scope) (x at k : ℕ) (op : PrimOp)
        → StandsApplied q t (tree.Name x at) k → means q t x ≡ Primitive op → k ≢ 2 → ⊥
    no_primitive_arity t x at k op h e differ =
        let w = from_app t h.0 h.1 in
        let u : StandsLike p q enter OfBinder OfCon OfUse Fits w.context w.before.head w.before.args
        (tree.Name x at) k = stands_like p q enter OfBinder OfCon OfUse Fits w.context w.before
        h.0 (tree.Name x at) k w.like h.2 in
        let v = name_before p q enter OfBinder OfCon OfUse Fits w.context u.head x at u.like in
        ok 23 v.1
        (broken.PrimitiveArity (
          w.before,
          w.inside,
          subst (λ y. HeadIsApplied w.before.head w.before.args y k) v.2
              u.stands,
        ) (go.primitive w.context w.scope t v.0 x op v.3 e) differ)

    no_arguments : (t : Scope) (app inner : Application) → InFunction q t (AnApp app)
        → Contains app inner → 12 < count inner.args → ⊥
    no_arguments t app inner h held l =
        let w = from_app t app h in
        let u : ContainsLike p q enter OfBinder OfCon OfUse Fits w.context w.before inner
        = contains_back p q enter OfBinder OfCon OfUse Fits w.context app inner held w.before
        w.like in
        let n = count_like p q enter OfBinder OfCon OfUse Fits w.context u.part.args inner.args
        u.like.1 in
        ok 33 (place u.part.head)
        (broken.TooManyArguments w.inside u.contains (omega (arith, n, l)))

    -- ---- the size

    mutual
      term_as_large : (c : S) (a b : Term) → RenamedTerm enter OfBinder OfCon OfUse c a b
          → term_size a ≡ term_size b
      term_as_large c (tree.Name n at) (tree.Name m to) r = refl
      term_as_large c (tree.Name n at) b r = absurd r
      term_as_large c (tree.Con n at) (tree.Con m to) r = refl
      term_as_large c (tree.Con n at) b r = absurd r
      term_as_large c (tree.Int k at) (tree.Int j to) r = refl
      term_as_large c (tree.Int k at) b r = absurd r
      term_as_large c (tree.Bracket f xs at) (tree.Bracket g ys to) r
          = λ i. term_as_large c f g r.0 i + terms_as_large c xs ys r.1 i
      term_as_large c (tree.Bracket f xs at) b r = absurd r

      terms_as_large : (c : S) (xs ys : Terms) → RenamedTerms enter OfBinder OfCon OfUse c xs ys
          → terms_size xs ≡ terms_size ys
      terms_as_large c NoTerms NoTerms r = refl
      terms_as_large c NoTerms ys r = absurd r
      terms_as_large c (AndTerm a xs) (AndTerm b ys) r
          = λ i. term_as_large c a b r.0 i + terms_as_large c xs ys r.1 i
      terms_as_large c (AndTerm a xs) ys r = absurd r

    sum_as_large : {X : Type 0} (R : X → X → Type 0) (f : X → ℕ) → ((x y : X) → R x y → f x ≡ f y)
        → (xs ys : List X) → AllZip R xs ys → sum_by f xs ≡ sum_by f ys
    sum_as_large R f h [] [] z = refl
    sum_as_large R f h [] (y ∷ ys) z = absurd z
    sum_as_large R f h (x ∷ xs) [] z = absurd z
    sum_as_large R f h (x ∷ xs) (y ∷ ys) z =
        let a : sum_by f (x ∷ xs) ≡ f x + sum_by f xs = sum_by-cons f x xs in
        let b : sum_by f (y ∷ ys) ≡ f y + sum_by f ys = sum_by-cons f y ys in
        a ∙ (λ i. h x y z.0 i + sum_as_large R f h xs ys z.1 i) ∙ sym b

    bind_as_large : (c : S) (a b : Bind) → RenamedBind enter OfBinder OfCon OfUse c a b
        → bind_size a ≡ bind_size b
    bind_as_large c a b r = λ i. 1 + term_as_large c a.app.head b.app.head r.1.0 i + terms_as_large
        c a.app.args b.app.args r.1.1 i

    pattern_as_large : (a b : Pattern) → RPattern a b → pattern_size a ≡ pattern_size b
    pattern_as_large (pattern.Con c xs) (pattern.Con d ys) r
        = ap (λ n. 1 + n) (length_all_zip RBinder xs ys r.1)
    pattern_as_large (pattern.Con c xs) b r = absurd r
    pattern_as_large (pattern.Int k at) (pattern.Int j to) r = refl
    pattern_as_large (pattern.Int k at) b r = absurd r
    pattern_as_large (pattern.Default x) (pattern.Default y) r = refl
    pattern_as_large (pattern.Default x) b r = absurd r

    mutual
      expr_as_large : (c : S) (e d : Expr) → RenamedExpr enter OfBinder OfCon OfUse c e d
          → expr_size e ≡ expr_size d
      expr_as_large c (App a) (App b) r = λ i. term_as_large c a.head b.head r.0 i + terms_as_large
          c a.args b.args r.1 i
      expr_as_large c (App a) d r = absurd r
      expr_as_large c (Let group e) (Let others d) r =
          let inner : S = enter (binders_of group) (binders_of others) c in
          λ i. sum_as_large (RenamedBind enter OfBinder OfCon OfUse inner) bind_size
          (bind_as_large inner) group others r.0 i + expr_as_large inner e d r.1 i
      expr_as_large c (Let group e) d r = absurd r
      expr_as_large c (Case e xs) (Case d ys) r = λ i. expr_as_large c e d r.0 i + alts_as_large c
          xs ys r.1 i
      expr_as_large c (Case e xs) d r = absurd r

      alts_as_large : (c : S) (xs ys : Alts) → RenamedAlts enter OfBinder OfCon OfUse c xs ys
          → alts_size xs ≡ alts_size ys
      alts_as_large c NoAlts NoAlts r = refl
      alts_as_large c NoAlts ys r = absurd r
      alts_as_large c (AndAlt a e xs) (AndAlt b d ys) r
          = λ i. pattern_as_large a b r.0 i + expr_as_large
          (behind enter OfBinder OfCon OfUse a b c) e d r.1 i + alts_as_large c xs ys r.2 i
      alts_as_large c (AndAlt a e xs) ys r = absurd r

    function_as_large : (f g : Function) → RFunction f g → function_size f ≡ function_size g
    function_as_large f g r = λ i. 1 + length_all_zip RBinder f.params g.params r.1 i +
        expr_as_large (enter f.params g.params start) f.body g.body r.2 i

    as_large : program_size p ≡ program_size q
    as_large = λ i. 2 * length_by i + sum_as_large RFunction function_size function_as_large
        p.functions q.functions go.functions i
      where
        length_by : length p.constructors ≡ length q.constructors
        length_by = length_all_zip RData p.constructors q.constructors go.constructors

    -- No rule is broken but those of names, which need more.
    pub no_other : (k at : ℕ) → broken.Broken q k at → IsRuleOfNames k ⊎ ⊥
    no_other k at (broken.DuplicateConstructor l e f s) = inl (inl refl)
    no_other k at (broken.DuplicateFunction l e f s) = inl (inr (inl refl))
    no_other k at (broken.DuplicateName {xs = xs} list r) = inr (no_duplicate_name xs at list r)
    no_other k at (broken.UnknownName b e) = inl (inr (inr (inl refl)))
    no_other k at (broken.UnknownConstructor b e) = inl (inr (inr (inl refl)))
    no_other k at (broken.UnknownPattern i b e f) = inl (inr (inr (inl refl)))
    no_other k at (broken.ConstructorArity {t = t} {c = x} {at = to} {k = n} {d = e} h f g)
        = inr (no_constructor_arity t x to n e h f g)
    no_other k at
        (broken.PatternArity {t = t} {alts = alts} {c = c} {fields = fields} {d = e} i h a f g)
        = inr (no_pattern_arity t alts c fields e i h a f g)
    no_other k at (broken.DefaultNotLast {t = t} {alts = alts} {x = y} {next = next} i h e f)
        = inr (no_default_before t alts y next i h e f)
    no_other k at
        (broken.DuplicateCon {t = t} {alts = alts} {c = c} {d = d} {xs = xs} {ys = ys} i j h l e f
        s) = inr (no_duplicate_con t alts c d xs ys i j h l e f s)
    no_other k at (broken.DuplicateInt {t = t} {alts = alts} {k = n} {at = a} {at' = b} i j h l e f)
        = inr (no_duplicate_int t alts n a b i j h l e f)
    no_other k at (broken.MixedAlternatives {t = t} {alts = alts} {q = b} {r = d} i j h f l e g)
        = inr (no_mixed t alts b d i j h f l e g)
    no_other k at (broken.ReservedBinder i n b e f g) = inl (inr (inr (inr (inr refl))))
    no_other k at (broken.ReservedFunction i n e f g) = inl (inr (inr (inr (inr refl))))
    no_other k at (broken.ReservedConstructor i e f) = inl (inr (inr (inr (inr refl))))
    no_other k at (broken.PrimitiveArity {t = t} {x = x} {at = to} {k = n} {op = op} h e f)
        = inr (no_primitive_arity t x to n op h e f)
    no_other k at (broken.NoMain e) = inl (inr (inr (inr (inl refl))))
    no_other k at (broken.MainHasParameters {f = g} i e f l) = inr (no_main_parameters g i e f l)
    no_other k at (broken.NoListConstructors h) = inr (no_list_constructors h)
    no_other k at (broken.TooManyFunctions {f = g} e)
        = inr (let w = beside_back RFunction p.functions q.functions go.functions 4096 g e
        in ok 31 w.0.at (broken.TooManyFunctions w.1))
    no_other k at (broken.TooManyConstructors {d = e} f)
        = inr (let w = beside_back RData p.constructors q.constructors go.constructors 1024 e f
        in ok 32 w.0.at (broken.TooManyConstructors w.1))
    no_other k at (broken.TooManyParameters {f = g} i e l) =
        inr (let w = beside_back RFunction p.functions q.functions go.functions i g e in let len
        = length_all_zip RBinder w.0.params g.params w.2.1
        in ok 33 w.0.at (broken.TooManyParameters i w.1 (omega (arith, len, l))))
    no_other k at (broken.TooManyArguments {t = t} {app = app} {inner = inner} h held l)
        = inr (no_arguments t app inner h held l)
    no_other k at (broken.TooManyFields {d = e} i f l)
        = inr (let w = beside_back RData p.constructors q.constructors go.constructors i e f
        in let n = w.2.1 in ok 34 w.0.at (broken.TooManyFields i w.1 (omega (arith, n, l))))
    no_other k at (broken.CoreTooLarge l) = inr
        (let n = as_large in ok 35 (program_size p) (broken.CoreTooLarge (omega (arith, n, l))))
