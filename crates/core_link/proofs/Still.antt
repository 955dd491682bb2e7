-- A linked program declares each name once, has a `main`, and knows every name in it.
use Rattle.std.proofs.Common.{◌≡◌, ℕ, zero, suc, ◌<◌, Bool, true, false, List, [], ◌∷◌, refl, sym, ap, subst, ◌∙◌, Some, None, inl, inr}
use Rattle.std.specs.Prelude.{◌≢◌, ◌==◌, ◌||◌, codes, slice_get}
use Rattle.std.specs.List.{AllZip}
use Rattle.std.proofs.lemmas.Slice.Eq.{bytes_eq-Decides}
use Rattle.seq.proofs.Lists.{none_is_some, some_is}
use Rattle.seq.proofs.Order.{compared}
use Rattle.seq.proofs.Truth.{not_both}
use Rattle.core_reader.specs.declared.syntax.Binder.{Binder}
use Rattle.core_reader.specs.declared.syntax.Pattern.TheVariants as pattern
use Rattle.core_reader.specs.Readable.{IsReadable, ReadableData, ReadableFunction}
use Rattle.core_reader.specs.Tree as tree
use Rattle.core_reader.specs.Tree.{Data, Function, Program}
use Rattle.arity_check.specs.declared.normal.PrimOp.{PrimOp}
use Rattle.arity_check.specs.Broken as program
use Rattle.arity_check.specs.Broken.{first_constructor_named}
use Rattle.arity_check.specs.Pieces.{StandsApplied, AnApp, AGroup, SomeAlts, binders_of, bound_by, InFunction}
use Rattle.arity_check.specs.BinderLists.{BinderList, OfFunction, OfGroup, OfPattern}
use Rattle.arity_check.specs.Standing.{HeadIsApplied}
use Rattle.arity_check.specs.Patterns.{alt_at}
use Rattle.arity_check.specs.declared.meaning.Meaning.TheVariants.{Local, Primitive, Unbound}
use Rattle.arity_check.specs.Scope.{Scope, means, is_named, primitives}
use Rattle.core_meaning.proofs.Valid.{different_places}
use Rattle.core_link.specs.Module.{Module, text_in, name_of, body, seen}
use Rattle.core_link.specs.Laws.{IsRuleOfNames, LinkingKeepsNameRules}
use Rattle.core_link.specs.Rules.{LacksMain, NoMainModule, AgainElsewhere, UnknownName, ReservedName, AgainConstructor, AgainFunction, Main}
use Rattle.core_link.specs.Union.{ConBecomes, enter, local_text, global_text, IsUnion, with_module, ConstructorBecomes, FunctionBecomes}
use Rattle.core_link.proofs.Agrees.{Agrees, Locals, Functions, Primitives, Neither, agrees, unknown_back}
use Rattle.core_link.proofs.Back.{stands_like, alt_back, group_binders, bound_like}
use Rattle.core_link.proofs.Beside.{beside_back, in_place, place_in}
use Rattle.core_link.proofs.Clear.{named_at, IsNone, local_none, global_clear}
use Rattle.core_link.proofs.Different.{global_one}
use Rattle.core_link.proofs.InModule.{AnyNumber, OfBinder, OfCon, OfUse, LikeBinder, FitsAny, held, comes_from}
use Rattle.core_link.proofs.Items.{Apart, InTwo, InOne, apart, rising_apart, Belongs, belongs}
use Rattle.core_link.proofs.Linked.{IsSound, sound_of, all_at, text_is, of_module, of_module_data, function_there}
use Rattle.core_link.proofs.Shapes.{name_before, con_before, app_before, group_before, alts_before, con_pattern_before}

none_at : (v : List ℕ) (qs : List (List ℕ × PrimOp)) → IsNone v qs → (n : ℕ) (q : List ℕ × PrimOp)
    → slice_get qs n ≡ Some q → v ≢ q.0
none_at v [] h n q e = none_is_some e
none_at v (r ∷ qs) h zero q e = let same : r ≡ q = cc
    in subst (λ (w : List ℕ × PrimOp). v ≢ w.0) same h.0
none_at v (r ∷ qs) h (suc n) q e = none_at v qs h.1 n q e

con_text : (names : List (List ℕ)) (m : Module) (y x : ℕ) (w : List ℕ)
    → slice_get m.names y ≡ Some w → ConBecomes names m y x → slice_get names x ≡ Some w
con_text names m y x w e h = h ∙ ap (λ v. Some v) (text_is m y w e)

module _ (ms : List Module) (c : Program) (u : IsUnion ms c) (sound : IsSound ms)
    (readable : IsReadable c) where
  -- ---- names and constructors that are unknown

  unknown_name : (t : Scope) (x at k : ℕ) → StandsApplied c t (tree.Name x at) k
      → means c t x ≡ Unbound → ⊥
  unknown_name t x at k used none =
      let w = comes_from ms c u sound readable t (AnApp used.0) used.1 in
      let m = w.owner in
      let n = c.names in
      let fits = FitsAny ms c u sound readable w.file m w.is_module in
      let a = app_before (seen m) c (enter n m) (OfBinder n m) (OfCon n m) (OfUse n m) fits
      w.context w.piece used.0 w.like in
      let h = stands_like (seen m) c (enter n m) (OfBinder n m) (OfCon n m) (OfUse n m) fits
      w.context a.0 used.0 (tree.Name x at) k a.2 used.2 in
      let v = name_before (seen m) c (enter n m) (OfBinder n m) (OfCon n m) (OfUse n m) fits
      w.context h.head x at h.like in
      let inside : InFunction (seen m) w.scope (AnApp a.0)
      = subst (InFunction (seen m) w.scope) a.1 w.inside in
      by w.file m w.is_module w.scope v.0
      (agrees ms c u sound readable w.file m w.is_module AnyNumber w.context w.scope t w.fits
      v.0 x v.3.0.0 v.3.0.1 v.3.1)
      (v.1, (a.0, inside, subst (λ y. HeadIsApplied a.0.head a.0.args y k) v.2 h.stands))
    where
      by : (i : ℕ) (m : Module) (e : slice_get ms i ≡ Some m) (s : Scope) (y : ℕ)
          → Agrees ms c u sound readable i m e AnyNumber s t y x → (to : ℕ)
          × StandsApplied (seen m) s (tree.Name y to) k → ⊥
      by i m e s y (Locals z l f g o) h = let d : Local l ≡ Unbound = sym g ∙ none in cc
      by i m e s y (Functions g params f o v is named there bound) h = bound none
      by i m e s y (Primitives op f g) h = let d : Primitive op ≡ Unbound = sym g ∙ none in cc
      by i m e s y (Neither f) h = sound.between 57 i h.0
          (UnknownName e (program.UnknownName h.1 f))

  unknown_constructor : (t : Scope) (x at k : ℕ) → StandsApplied c t (tree.Con x at) k
      → first_constructor_named x c.constructors ≡ None → ⊥
  unknown_constructor t x at k used none =
      let w = comes_from ms c u sound readable t (AnApp used.0) used.1 in
      let m = w.owner in
      let n = c.names in
      let fits = FitsAny ms c u sound readable w.file m w.is_module in
      let a = app_before (seen m) c (enter n m) (OfBinder n m) (OfCon n m) (OfUse n m) fits
      w.context w.piece used.0 w.like in
      let h = stands_like (seen m) c (enter n m) (OfBinder n m) (OfCon n m) (OfUse n m) fits
      w.context a.0 used.0 (tree.Con x at) k a.2 used.2 in
      let v = con_before (seen m) c (enter n m) (OfBinder n m) (OfCon n m) (OfUse n m) fits
      w.context h.head x at h.like in
      let inside : InFunction (seen m) w.scope (AnApp a.0)
      = subst (InFunction (seen m) w.scope) a.1 w.inside in
      let stands = subst (λ y. HeadIsApplied a.0.head a.0.args y k) v.2 h.stands in
      sound.between 57 w.file v.1
      (UnknownName w.is_module
      (program.UnknownConstructor (a.0, inside, stands) (known w.file m w.is_module v.0 v.3)))
    where
      known : (i : ℕ) (m : Module) (e : slice_get ms i ≡ Some m) (y : ℕ) → OfCon c.names m y x
          → first_constructor_named y (seen m).constructors ≡ None
      known i m e y h = unknown_back ms c u sound readable i m e y x h.0.0 h.0.1
          (con_text c.names m y x h.0.0 h.0.1 h.1) none

  unknown_pattern : (t : Scope) (alts : tree.Alts) (d : Binder) (fields : List Binder) (i : ℕ)
      → InFunction c t (SomeAlts alts) → alt_at alts i ≡ Some (pattern.Con d fields)
      → first_constructor_named d.name.0 c.constructors ≡ None → ⊥
  unknown_pattern t alts d fields i infn at none =
      let w = comes_from ms c u sound readable t (SomeAlts alts) infn in
      let m = w.owner in
      let n = c.names in
      let fits = FitsAny ms c u sound readable w.file m w.is_module in
      let a = alts_before (seen m) c (enter n m) (OfBinder n m) (OfCon n m) (OfUse n m) fits
      w.context w.piece alts w.like in
      let b = alt_back (seen m) c (enter n m) (OfBinder n m) (OfCon n m) (OfUse n m) fits w.context
      alts i (pattern.Con d fields) at a.0 a.2 in
      let v = con_pattern_before (seen m) c (enter n m) (OfBinder n m) (OfCon n m) (OfUse n m) fits
      b.0 d fields b.2 in
      let inside : InFunction (seen m) w.scope (SomeAlts a.0)
      = subst (InFunction (seen m) w.scope) a.1 w.inside in
      sound.between 57 w.file v.0.at
      (UnknownName w.is_module (program.UnknownPattern i inside (b.1 ∙ ap (λ y. Some y) v.2)
      (unknown_back ms c u sound readable w.file m w.is_module v.0.name.0 d.name.0 v.3.0.0 v.3.0.1
      (con_text c.names m v.0.name.0 d.name.0 v.3.0.0 v.3.0.1 v.3.1) none)))

  -- ---- reserved names

  is_bytes : (x : ℕ) (v w : List ℕ) → slice_get c.names x ≡ Some v → is_named c w x ≡ true → v ≡ w
  is_bytes x v w e h = (bytes_eq-Decides v w).0 (sym (named_at c x v w e) ∙ h)

  abbrev IsLocal : ℕ → Type 0
  IsLocal x = (v : List ℕ) × (slice_get c.names x ≡ Some (local_text v))

  local_in : (m : Module) (bs xs : List Binder) → AllZip (LikeBinder c.names m) bs xs
      → (i : ℕ) (x : Binder) → slice_get xs i ≡ Some x → IsLocal x.name.0
  local_in m bs xs z i x e = let w = beside_back (LikeBinder c.names m) bs xs z i x e
      in (text_in m w.0.name.0, w.2.1)

  binder_local : (xs : List Binder) → BinderList c xs → (i : ℕ) (x : Binder)
      → slice_get xs i ≡ Some x → IsLocal x.name.0
  binder_local xs (OfFunction {f = g} j e) i x is =
      let w = of_module ms c u j g e in
      local_in w.owner w.function.params g.params (held ms c u sound readable g w).1 i x is
  binder_local xs (OfGroup {t = t} {group = others} infn) i x is =
      let w = comes_from ms c u sound readable t (AGroup others) infn in
      let m = w.owner in
      let n = c.names in
      let fits = FitsAny ms c u sound readable w.file m w.is_module in
      let a = group_before (seen m) c (enter n m) (OfBinder n m) (OfCon n m) (OfUse n m) fits
      w.context w.piece others w.like in
      local_in m (binders_of a.0) (binders_of others)
      (group_binders (seen m) c (enter n m) (OfBinder n m) (OfCon n m) (OfUse n m) fits
      (enter n m (binders_of a.0) (binders_of others) w.context) a.0 others a.2) i x is
  binder_local xs (OfPattern {t = t} {alts = alts} {pat = pat} j infn at) i x is =
      let w = comes_from ms c u sound readable t (SomeAlts alts) infn in
      let m = w.owner in
      let n = c.names in
      let fits = FitsAny ms c u sound readable w.file m w.is_module in
      let a = alts_before (seen m) c (enter n m) (OfBinder n m) (OfCon n m) (OfUse n m) fits
      w.context w.piece alts w.like in
      let b = alt_back (seen m) c (enter n m) (OfBinder n m) (OfCon n m) (OfUse n m) fits w.context
      alts j pat at a.0 a.2 in
      local_in m (bound_by b.0) (bound_by pat)
      (bound_like (seen m) c (enter n m) (OfBinder n m) (OfCon n m) (OfUse n m) fits b.0 pat
      b.2) i x is

  no_reserved_binder : (xs : List Binder) (x : Binder) (q : List ℕ × PrimOp) (i n : ℕ)
      → BinderList c xs → slice_get xs i ≡ Some x → slice_get primitives n ≡ Some q
      → is_named c q.0 x.name.0 ≡ true → ⊥
  no_reserved_binder xs x q i n list e f h =
      let l = binder_local xs list i x e in
      none_at (local_text l.0) primitives (local_none l.0) n q f
      (is_bytes x.name.0 (local_text l.0) q.0 l.1 h)

  no_reserved_function : (g : Function) (q : List ℕ × PrimOp) (i n : ℕ)
      → slice_get c.functions i ≡ Some g → slice_get primitives n ≡ Some q
      → is_named c q.0 g.name ≡ true → ⊥
  no_reserved_function g q i n e f h =
      let w = of_module ms c u i g e in
      let v = global_text (text_in w.owner w.function.name) (name_of w.owner) in
      none_at v primitives
      (global_clear (text_in w.owner w.function.name) (name_of w.owner)).primitive n q f
      (is_bytes g.name v q.0 w.becomes.0 h)

  no_reserved_constructor : (d : Data) (i : ℕ) → slice_get c.constructors i ≡ Some d
      → is_named c (codes "Int") d.name ≡ true → ⊥
  no_reserved_constructor d i e h =
      let w = of_module_data ms c u i d e in
      let m = w.owner in
      let r = (all_at (ReadableData m.names) m.constructors
      (sound.good w.file m w.is_module).readable.constructors w.number w.data_of w.is).0 in
      let text : text_in m w.data_of.name ≡ codes "Int"
      = is_bytes d.name (text_in m w.data_of.name) (codes "Int") w.becomes.0 h in
      let same : r.0 ≡ codes "Int" = sym (text_is m w.data_of.name r.0 r.1) ∙ text in
      sound.own w.file m w.is_module 22 w.data_of.at
      (ReservedName
      (program.ReservedConstructor w.number w.is
      (named_at (body m) w.data_of.name r.0 (codes "Int") r.1 ∙
      (bytes_eq-Decides r.0 (codes "Int")).1 same)))

  -- ---- declarations

  one_in_module : (m : Module) (file : ℕ) → slice_get ms file ≡ Some m → (x y : ℕ) (v w : List ℕ)
      → slice_get m.names x ≡ Some v → slice_get m.names y ≡ Some w → text_in m y ≡ text_in m x
      → y ≡ x
  one_in_module m file is x y v w e f same =
      different_places m.names (sound.good file m is).readable.different y x v
      (f ∙ ap (λ z. Some z) (sym (text_is m y w f) ∙ same ∙ text_is m x v e)) e

  in_all : (i : ℕ) (m : Module) → slice_get u.sorted i ≡ Some m → (j : ℕ)
      × (slice_get ms j ≡ Some m)
  in_all i m e = place_in ms (u.only m (in_place u.sorted i e))

  functions_apart : (f g : Function) → g.name ≡ f.name → (x y : Module × Function)
      → FunctionBecomes c.names x.0 x.1 f → FunctionBecomes c.names y.0 y.1 g
      → Apart (λ m. m.functions) u.sorted x y → ⊥
  functions_apart f g same x y h k (InTwo i j l e d) =
      let p = in_all i x.0 e in
      let q = in_all j y.0 d in
      let one = global_one (text_in x.0 x.1.name) (text_in y.0 y.1.name) (name_of x.0) (name_of y.0)
      (sound.good p.0 x.0 p.1).plain (sound.good q.0 y.0 q.1).plain
      (some_is (sym h.0 ∙ ap (slice_get c.names) (sym same) ∙ k.0)) in
      rising_apart name_of u.sorted u.rising i j x.0 y.0 l e d one.1
  functions_apart f g same x y h k (InOne m file i j a b is l e d is_x is_y) =
      let there = in_all file m is in
      let good = sound.good there.0 m there.1 in
      let r = (all_at (ReadableFunction m.names) m.functions good.readable.functions i a e).0 in
      let q = (all_at (ReadableFunction m.names) m.functions good.readable.functions j b d).0 in
      let first : FunctionBecomes c.names m a f = subst
      (λ (z : Module × Function). FunctionBecomes c.names z.0 z.1 f) (sym is_x) h in
      let second : FunctionBecomes c.names m b g = subst
      (λ (z : Module × Function). FunctionBecomes c.names z.0 z.1 g) (sym is_y) k in
      let one = global_one (text_in m a.name) (text_in m b.name) (name_of m) (name_of m) good.plain
      good.plain (some_is (sym first.0 ∙ ap (slice_get c.names) (sym same) ∙ second.0)) in
      sound.own there.0 m there.1 58 b.at
      (AgainFunction
      (program.DuplicateFunction l e d
      (one_in_module m there.0 there.1 a.name b.name r.0 q.0 r.1 q.1 (sym one.0))))

  constructors_apart : (d e : Data) → e.name ≡ d.name → (x y : Module × Data)
      → Belongs (λ m. m.constructors) u.sorted x → Belongs (λ m. m.constructors) u.sorted y
      → ConstructorBecomes c.names x.0 x.1 d → ConstructorBecomes c.names y.0 y.1 e
      → Apart (λ m. m.constructors) u.sorted x y → ⊥
  constructors_apart d e same x y v w h k (InTwo i j l f g) =
      let p = in_all i x.0 f in
      let q = in_all j y.0 g in
      let text : text_in x.0 x.1.name ≡ text_in y.0 y.1.name
      = some_is (sym h.0 ∙ ap (slice_get c.names) (sym same) ∙ k.0) in
      elim (compared p.0 q.0) [
        | inl b ↦ sound.between 58 q.0 y.1.at
            (AgainElsewhere w.number v.number q.1 p.1 b w.item v.item text)
        | inr o ↦ elim o [
          | inl s ↦ rising_apart name_of u.sorted u.rising i j x.0 y.0 l f g
              (ap name_of (some_is (sym p.1 ∙ ap (slice_get ms) s ∙ q.1)))
          | inr b ↦ sound.between 58 p.0 x.1.at
              (AgainElsewhere v.number w.number p.1 q.1 b v.item w.item (sym text))
        ]
      ]
  constructors_apart d e same x y v w h k (InOne m file i j a b is l f g is_x is_y) =
      let there = in_all file m is in
      let good = sound.good there.0 m there.1 in
      let r = (all_at (ReadableData m.names) m.constructors good.readable.constructors i a f).0 in
      let q = (all_at (ReadableData m.names) m.constructors good.readable.constructors j b g).0 in
      let first : ConstructorBecomes c.names m a d = subst
      (λ (z : Module × Data). ConstructorBecomes c.names z.0 z.1 d) (sym is_x) h in
      let second : ConstructorBecomes c.names m b e
      = subst (λ (z : Module × Data). ConstructorBecomes c.names z.0 z.1 e) (sym is_y) k in
      sound.own there.0 m there.1 58 b.at
      (AgainConstructor
      (program.DuplicateConstructor l f g
      (one_in_module m there.0 there.1 a.name b.name r.0 q.0 r.1 q.1
      (some_is (sym second.0 ∙ ap (slice_get c.names) same ∙ first.0)))))

  no_double_function : (i j : ℕ) (f g : Function) → i < j → slice_get c.functions i ≡ Some f
      → slice_get c.functions j ≡ Some g → g.name ≡ f.name → ⊥
  no_double_function i j f g l e d same =
      let all = with_module (λ m. m.functions) u.sorted in
      let x = beside_back (λ x g. FunctionBecomes c.names x.0 x.1 g) all c.functions u.functions i f
      e in
      let y = beside_back (λ x g. FunctionBecomes c.names x.0 x.1 g) all c.functions u.functions j g
      d in
      functions_apart f g same x.0 y.0 x.2 y.2
      (apart (λ m. m.functions) u.sorted i j x.0 y.0 l x.1 y.1)

  no_double_constructor : (i j : ℕ) (d e : Data) → i < j → slice_get c.constructors i ≡ Some d
      → slice_get c.constructors j ≡ Some e → e.name ≡ d.name → ⊥
  no_double_constructor i j d e l f g same =
      let all = with_module (λ m. m.constructors) u.sorted in
      let x = beside_back (λ x d. ConstructorBecomes c.names x.0 x.1 d) all c.constructors
      u.constructors i d f in
      let y = beside_back (λ x d. ConstructorBecomes c.names x.0 x.1 d) all c.constructors
      u.constructors j e g in
      constructors_apart d e same x.0 y.0 (belongs (λ m. m.constructors) u.sorted i x.0 x.1)
      (belongs (λ m. m.constructors) u.sorted j y.0 y.1) x.2 y.2
      (apart (λ m. m.constructors) u.sorted i j x.0 y.0 l x.1 y.1)

  -- ---- a `main`

  lacks_main :
      ((i : ℕ) (f : Function) → slice_get c.functions i ≡ Some f
      → is_named c (codes "main") f.name ≡ false) → LacksMain ms
  lacks_main none i m e d =
      let w = function_there ms c u m (in_place ms i e) d.function
      (in_place m.functions d.number d.is) in
      let text : slice_get c.names w.1.name ≡ Some (codes "main")
      = w.3.0 ∙ (λ i. Some (global_text (d.main i) (d.named i))) in
      not_both (is_named c (codes "main") w.1.name)
      (named_at c w.1.name (codes "main") (codes "main") text) (none w.0 w.1 w.2)

  abbrev is_rule_of_names : ℕ → Bool
  is_rule_of_names k = k == 11 || k == 12 || k == 14 || k == 19 || k == 22

  names_rule : (k : ℕ) → IsRuleOfNames k → is_rule_of_names k ≡ true
  names_rule k (inl e) = ap is_rule_of_names e
  names_rule k (inr (inl e)) = ap is_rule_of_names e
  names_rule k (inr (inr (inl e))) = ap is_rule_of_names e
  names_rule k (inr (inr (inr (inl e)))) = ap is_rule_of_names e
  names_rule k (inr (inr (inr (inr e)))) = ap is_rule_of_names e

  other_rule : (k : ℕ) → IsRuleOfNames k → is_rule_of_names k ≡ false → ⊥
  other_rule k h e = not_both (is_rule_of_names k) (names_rule k h) e

  pub unbroken : (LacksMain ms → ⊥) → (k at : ℕ) → IsRuleOfNames k → program.Broken c k at → ⊥
  unbroken main k at h (program.DuplicateConstructor {i = i} {j = j} {c = d} {d = e} l f g s)
      = no_double_constructor i j d e l f g s
  unbroken main k at h (program.DuplicateFunction {i = i} {j = j} {f = f} {g = g} l d e s)
      = no_double_function i j f g l d e s
  unbroken main k at h (program.DuplicateName b r) = other_rule 13 h refl
  unbroken main k at h (program.UnknownName {t = t} {x = x} {at = to} {k = n} b e)
      = unknown_name t x to n b e
  unbroken main k at h (program.UnknownConstructor {t = t} {c = x} {at = to} {k = n} b e)
      = unknown_constructor t x to n b e
  unbroken main k at h
      (program.UnknownPattern {t = t} {alts = alts} {c = d} {fields = fields} i b e f)
      = unknown_pattern t alts d fields i b e f
  unbroken main k at h (program.ConstructorArity b e f) = other_rule 15 h refl
  unbroken main k at h (program.PatternArity i b e f g) = other_rule 15 h refl
  unbroken main k at h (program.DefaultNotLast i b e f) = other_rule 16 h refl
  unbroken main k at h (program.DuplicateCon i j b l e f g) = other_rule 17 h refl
  unbroken main k at h (program.DuplicateInt i j b l e f) = other_rule 17 h refl
  unbroken main k at h (program.MixedAlternatives i j b e l f g) = other_rule 18 h refl
  unbroken main k at h (program.ReservedBinder {xs = xs} {x = x} {q = q} i n b e f g)
      = no_reserved_binder xs x q i n b e f g
  unbroken main k at h (program.ReservedFunction {f = g} {q = q} i n b e f)
      = no_reserved_function g q i n b e f
  unbroken main k at h (program.ReservedConstructor {d = d} i e f) = no_reserved_constructor d i e f
  unbroken main k at h (program.PrimitiveArity b e f) = other_rule 23 h refl
  unbroken main k at h (program.NoMain e) = main (lacks_main e)
  unbroken main k at h (program.MainHasParameters i e f g) = other_rule 20 h refl
  unbroken main k at h (program.NoListConstructors e) = other_rule 21 h refl
  unbroken main k at h (program.TooManyFunctions e) = other_rule 31 h refl
  unbroken main k at h (program.TooManyConstructors e) = other_rule 32 h refl
  unbroken main k at h (program.TooManyParameters i e f) = other_rule 33 h refl
  unbroken main k at h (program.TooManyArguments b e f) = other_rule 33 h refl
  unbroken main k at h (program.TooManyFields i e f) = other_rule 34 h refl
  unbroken main k at h (program.CoreTooLarge e) = other_rule 35 h refl

pub still_unbroken : LinkingKeepsNameRules
still_unbroken texts c u l r k at h b =
    let sound = sound_of texts l.modules u l.read in
    unbroken l.modules c l.union sound r
    (λ lacks. u Main 59 0 0 (NoMainModule l.modules l.read lacks)) k at h b
