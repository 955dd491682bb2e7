-- The normal form of an application has the types of the application.
use Rattle.std.proofs.Common.{◌≡◌, ℕ, zero, suc, ◌+◌, ◌<◌, Bool, true, false, cond, nat_eq, List, [], ◌∷◌, ◌++◌, map, length, Option, Some, None, slice_get, refl, sym, ap, ◌∙◌, subst, arith, eqb-true, length-append}
use Rattle.std.specs.Prelude.{codes}
use Rattle.seq.specs.Lists.{AllOf}
use Rattle.seq.proofs.Lists.{some_is, none_is_some, length_map}
use Rattle.core_reader.specs.declared.syntax.Binder.{Binder}
use Rattle.core_reader.specs.Tree as tree
use Rattle.core_reader.specs.Tree.{Term, Terms, Name, Con, Int, Bracket, NoTerms, AndTerm}
use Rattle.arity_check.specs.declared.normal.PrimOp.{PrimOp}
use Rattle.arity_check.specs.declared.normal.Var.{Var}
use Rattle.arity_check.specs.declared.normal.Var.TheVariants as var
use Rattle.arity_check.specs.declared.normal.Bound.{Bound}
use Rattle.arity_check.specs.declared.normal.Flat.{Flat}
use Rattle.arity_check.specs.declared.normal.Flat.TheVariants as flat
use Rattle.arity_check.specs.Program as normal
use Rattle.arity_check.specs.Scope as scope
use Rattle.arity_check.specs.declared.meaning.Meaning.{Meaning}
use Rattle.arity_check.specs.declared.meaning.Meaning.TheVariants.{Local, Function, Primitive, Unbound}
use Rattle.arity_check.specs.Scope.{Scope, means, found_in, function_from, primitive_from, primitives}
use Rattle.arity_check.specs.Normal.{Pairwise, IsConstructor, append, bound, itself, itself_as, IsFlat, Number, Constructor, Named, NumberApplied, BracketApplied, LoneHead, LoneBracket, IsNamed, OfPrimitive, OfLocal, OfGlobal, Called, Partial, Exceeded, IsApplied, Applied, AreArgs, NoArgs, AndArg, IsArg, Itself, New}
use Rattle.core_types.specs.Source.{Source, erased}
use Rattle.core_types.specs.Rules.{IsUnbroken}
use Rattle.core_types.specs.Typing.{Typed, Arrow, Open, AtBracket, Locals, local_in, arrows, term_type, terms_types, name_type, function_type, function_of, global_type, param_type, result_type, own_type, within_term, within_terms, constraint, head_place, Substitution, under, Solves, Constraint}
use Rattle.core_types.specs.Typing as types
use Rattle.core_meaning.specs.WellFormed.{HasFields}
use Rattle.type_meaning.specs.Judgement.{Instance, instance, Context, VarHas, VarsHave, FormHas, GroupHas}
use Rattle.type_meaning.specs.SourceTypes.{ConstructorHasType, FunctionHasType}
use Rattle.type_meaning.proofs.Readings.{under_both, both_carry, carry_arrows, arrows_same, arrows_fewer, arrows_append, Signed, used_has}
use Rattle.type_meaning.proofs.Constructors.{con_fits}

-- ---- lists

pub all_left : {A : Type 0} (P : A → Type 0) (xs ys : List A) → AllOf P (xs ++ ys) → AllOf P xs
all_left P [] ys h = tt
all_left P (x ∷ xs) ys h = (h.0, all_left P xs ys h.1)

pub all_right : {A : Type 0} (P : A → Type 0) (xs ys : List A) → AllOf P (xs ++ ys) → AllOf P ys
all_right P [] ys h = h
all_right P (x ∷ xs) ys h = all_right P xs ys h.1

pub solves_left : (σ : Substitution) (xs ys : List Constraint) → Solves σ (xs ++ ys) → Solves σ xs
solves_left σ [] ys h = tt
solves_left σ (x ∷ xs) ys h = (h.0, solves_left σ xs ys h.1)

pub solves_right : (σ : Substitution) (xs ys : List Constraint) → Solves σ (xs ++ ys) → Solves σ ys
solves_right σ [] ys h = h
solves_right σ (x ∷ xs) ys h = solves_right σ xs ys h.1

-- new locals have these types
abbrev pub NewsIn : Context → List Bound → List Typed → Type 0
NewsIn Γ [] [] = Unit {0}
NewsIn Γ [] (t ∷ ts) = ⊥
NewsIn Γ (b ∷ bs) [] = ⊥
NewsIn Γ (b ∷ bs) (t ∷ ts) = (Γ b.local ≡ Some t) × NewsIn Γ bs ts

pub news_left : (Γ : Context) (bs cs : List Bound) (ts us : List Typed) → length bs ≡ length ts
    → NewsIn Γ (bs ++ cs) (ts ++ us) → NewsIn Γ bs ts
news_left Γ [] cs [] us e h = tt
news_left Γ [] cs (t ∷ ts) us e h = absurd (omega (arith, e))
news_left Γ (b ∷ bs) cs [] us e h = absurd (omega (arith, e))
news_left Γ (b ∷ bs) cs (t ∷ ts) us e h = (h.0, news_left Γ bs cs ts us (omega (arith, e)) h.1)

pub news_right : (Γ : Context) (bs cs : List Bound) (ts us : List Typed) → length bs ≡ length ts
    → NewsIn Γ (bs ++ cs) (ts ++ us) → NewsIn Γ cs us
news_right Γ [] cs [] us e h = h
news_right Γ [] cs (t ∷ ts) us e h = absurd (omega (arith, e))
news_right Γ (b ∷ bs) cs [] us e h = absurd (omega (arith, e))
news_right Γ (b ∷ bs) cs (t ∷ ts) us e h = news_right Γ bs cs ts us (omega (arith, e)) h.1

-- constructors have as many fields as there are arguments
abbrev pub Counted : normal.Program → Flat → Type 0
Counted p (flat.Int k) = Unit {0}
Counted p (flat.Con c xs) = HasFields p c (length xs)
Counted p (flat.Part f xs) = Unit {0}
Counted p (flat.Call f xs) = Unit {0}
Counted p (flat.Apply x xs) = Unit {0}
Counted p (flat.Prim op x y) = Unit {0}

abbrev pub AllCounted : normal.Program → List Bound → Type 0
AllCounted p bs = AllOf (λ b. Counted p b.flat) bs

map_map : (F : Typed → Typed) (g : Binder → Typed) (bs : List Binder)
    → map F (map g bs) ≡ map (λ b. F (g b)) bs
map_map F g [] = refl
map_map F g (b ∷ bs) = ap (λ r. F (g b) ∷ r) (map_map F g bs)

module _ (s : Source) (p : normal.Program) (unbroken : IsUnbroken s)
    (cons : Pairwise (IsConstructor (erased s)) (erased s).constructors p.cons) (σ : Substitution)
    (signs : Signed s σ) (ρ : Instance) where
  abbrev pub F : Typed → Typed
  F t = under_both σ ρ t

  abbrev pub Has : Context → List Bound → List Typed → Type 0
  Has Γ = GroupHas (ConstructorHasType s) (FunctionHasType s σ) Γ

  pub has_append : (Γ : Context) (bs cs : List Bound) (ts us : List Typed) → Has Γ bs ts
      → Has Γ cs us → Has Γ (bs ++ cs) (ts ++ us)
  has_append Γ [] cs [] us h k = k
  has_append Γ [] cs (t ∷ ts) us h k = absurd h
  has_append Γ (b ∷ bs) cs [] us h k = absurd h
  has_append Γ (b ∷ bs) cs (t ∷ ts) us h k = (h.0, has_append Γ bs cs ts us h.1 k)

  -- ---- names

  -- both list the same names
  abbrev pub SameNames : Scope → Locals → Type 0
  SameNames [] [] = Unit {0}
  SameNames [] (l ∷ ls) = ⊥
  SameNames (b ∷ sc) [] = ⊥
  SameNames (b ∷ sc) (l ∷ ls) = (b.0 ≡ l.0) × SameNames sc ls

  -- the locals have the types that are listed
  abbrev pub Fits : Scope → Locals → Context → Type 0
  Fits [] [] Γ = Unit {0}
  Fits [] (l ∷ ls) Γ = ⊥
  Fits (b ∷ sc) [] Γ = ⊥
  Fits (b ∷ sc) (l ∷ ls) Γ = (Γ b.1 ≡ Some (F l.1)) × Fits sc ls Γ

  pub record FunctionSays (g k : ℕ) (t : Typed) : Type 0 where
    pub function : tree.Function
    pub is : slice_get s.functions g ≡ Some function
    pub params : length function.params ≡ k
    pub at : ℕ
    pub type : t ≡ function_type s function at

  module _ (sc : Scope) (ls : Locals) where
    -- what a name stands for tells its type
    abbrev pub NameSays : Meaning → Typed → Type 0
    NameSays (Local y) t = (Γ : Context) → Fits sc ls Γ → Γ y ≡ Some (F t)
    NameSays (Function g k) t = FunctionSays g k t
    NameSays (Primitive op) t = t ≡ Arrow types.Int (Arrow types.Int types.Int)
    NameSays Unbound t = Unit {0}

    function_says : (fs : List tree.Function) (f x at : ℕ)
        → ((j : ℕ) (g : tree.Function) → slice_get fs j ≡ Some g
        → slice_get s.functions (f + j) ≡ Some g)
        → NameSays (function_from (erased s) fs f x)
        (elim (function_of fs x) [ Some g ↦ function_type s g at | None ↦ types.Int ])
    function_says [] f x at h = tt
    function_says (g ∷ fs) f x at h = by_test (nat_eq g.name x)
        (function_says fs (f + 1) x at
        (λ j g e. let q : f + suc j ≡ (f + 1) + j = omega arith
        in subst (λ n. slice_get s.functions n ≡ Some g) q (h (suc j) g e)))
      where
        by_test : (b : Bool) → NameSays (function_from (erased s) fs (f + 1) x)
            (elim (function_of fs x) [ Some g ↦ function_type s g at | None ↦ types.Int ])
            → NameSays
            (cond b (Function f (length g.params)) (function_from (erased s) fs (f + 1) x))
            (elim (cond b (Some g) (function_of fs x)) as (λ _. Typed)
            [ Some g ↦ function_type s g at | None ↦ types.Int ])
        by_test true k = let z : f + 0 ≡ f = omega arith
            in record {
              function = g;
              is = subst (λ n. slice_get s.functions n ≡ Some g) z (h 0 g refl);
              params = refl;
              at = at;
              type = refl;
            }
        by_test false k = k

    abbrev base : Option Typed → ℕ → ℕ → Typed
    base o x at = elim o [ Some t ↦ t | None ↦ global_type s x at ]

    found_says : (sc' : Scope) (ls' : Locals) (x at : ℕ) → SameNames sc' ls'
        → ((Γ : Context) → Fits sc ls Γ → Fits sc' ls' Γ)
        → NameSays (found_in (erased s) sc' x) (base (local_in ls' x) x at)
    found_says [] [] x at n f = function_says s.functions 0 x at
        (λ j g e. let q : 0 + j ≡ j = omega arith in subst (λ n. slice_get s.functions n ≡ Some g)
        (sym q) e)
    found_says [] (l ∷ ls') x at n f = absurd n
    found_says (b ∷ sc') [] x at n f = absurd n
    found_says (b ∷ sc') (l ∷ ls') x at n f =
        subst (λ m. NameSays (cond (nat_eq b.0 x) (Local b.1) (found_in (erased s) sc' x))
        (base (cond (nat_eq m x) (Some l.1) (local_in ls' x)) x at)) n.0
        (by_test (nat_eq b.0 x) (found_says sc' ls' x at n.1 (λ Γ h. (f Γ h).1)))
      where
        by_test : (t : Bool) → NameSays (found_in (erased s) sc' x) (base (local_in ls' x) x at)
            → NameSays (cond t (Local b.1) (found_in (erased s) sc' x))
            (base (cond t (Some l.1) (local_in ls' x)) x at)
        by_test true k = λ Γ h. (f Γ h).0
        by_test false k = k

    pub name_says : (x at : ℕ) → SameNames sc ls → NameSays (means (erased s) sc x)
        (name_type s ls x at)
    name_says x at n = by_test (scope.is_named (erased s) (codes "_") x)
        (by_meaning (primitive_from (erased s) primitives x) (found_in (erased s) sc x)
        (base (local_in ls x) x at) (found_says sc ls x at n (λ Γ h. h)))
      where
        by_test : (b : Bool) → NameSays
            (scope.unless_primitive (primitive_from (erased s) primitives x)
            (found_in (erased s) sc x)) (name_type s ls x at)
            → NameSays
            (cond b Unbound
            (scope.unless_primitive (primitive_from (erased s) primitives x)
            (found_in (erased s) sc x))) (name_type s ls x at)
        by_test true h = tt
        by_test false h = h

        by_meaning : (m f : Meaning) (t : Typed) → NameSays f t
            → NameSays (scope.unless_primitive m f) (types.unless_primitive m t)
        by_meaning (Primitive op) f t h = refl
        by_meaning (Local y) f t h = h
        by_meaning (Function g k) f t h = h
        by_meaning Unbound f t h = h

    -- a function that is used
    record FunctionUsed (g k : ℕ) (t : Typed) : Type 0 where
      params : List Typed
      result : Typed
      has : FunctionHasType s σ g params result
      long : length params ≡ k
      type : t ≡ arrows params result

    function_used : (g k : ℕ) (t : Typed) → FunctionSays g k t → FunctionUsed g k (F t)
    function_used g k t h =
        let u = used_has s σ ρ signs h.function g h.at h.is in
        let f : Typed → Typed = under_both σ u.0 in
        let own = h.function in
        record {
          params = map (λ b. f (param_type s own b)) own.params;
          result = f (result_type s own);
          has = record { function = own; is = h.is; ρ = u.0; params = refl; result = refl };
          long = length_map (λ b. f (param_type s own b)) own.params ∙ h.params;
          type = ap F h.type ∙ u.1 ∙ carry_arrows f _ (both_carry σ u.0)
              (map (param_type s own) own.params) (result_type s own)
              ∙ (λ i. arrows (map_map f (param_type s own) own.params i) (f (result_type s own)));
        }

    -- ---- what normal forms have

    pub record FlatHas (news : List Bound) (form : Flat) (r : Typed) : Type 0 where
      pub types : List Typed
      pub long : length news ≡ length types
      pub has : (Γ : Context) → Fits sc ls Γ → NewsIn Γ news types → Has Γ news types
          × FormHas (ConstructorHasType s) (FunctionHasType s σ) Γ form r

    pub record ArgsHave (news : List Bound) (xs : List Var) (ts : List Typed) : Type 0 where
      pub types : List Typed
      pub long : length news ≡ length types
      pub has : (Γ : Context) → Fits sc ls Γ → NewsIn Γ news types → Has Γ news types
          × VarsHave (ConstructorHasType s) (FunctionHasType s σ) Γ xs ts

    pub record ArgHas (news : List Bound) (x : Var) (t : Typed) : Type 0 where
      pub types : List Typed
      pub long : length news ≡ length types
      pub has : (Γ : Context) → Fits sc ls Γ → NewsIn Γ news types → Has Γ news types
          × VarHas (ConstructorHasType s) (FunctionHasType s σ) Γ x t

    abbrev pub args_types : Terms → List Typed
    args_types args = map F (terms_types s ls args)

    args_long : {n : ℕ} {args : Terms} {news : List Bound} {xs : List Var}
        → AreArgs (erased s) sc n args news xs → length (args_types args) ≡ length xs
    args_long NoArgs = refl
    args_long (AndArg news1 news2 a b e) = ap suc (args_long b)

    types_append : (as' bs : Terms) → args_types (append as' bs) ≡ args_types as' ++ args_types bs
    types_append NoTerms bs = refl
    types_append (AndTerm a as') bs = ap (λ r. F (term_type s ls a) ∷ r) (types_append as' bs)

    within_append : (as' bs : Terms) → Solves σ (within_terms s ls (append as' bs))
        → Solves σ (within_terms s ls as') × Solves σ (within_terms s ls bs)
    within_append NoTerms bs h = (tt, h)
    within_append (AndTerm a as') bs h =
        let r = within_append as' bs
        (solves_right σ (within_term s ls a) (within_terms s ls (append as' bs)) h) in (
          solves_both (within_term s ls a) (within_terms s ls as')
              (solves_left σ (within_term s ls a) (within_terms s ls (append as' bs)) h) r.0,
          r.1,
        )
      where
        solves_both : (xs ys : List Constraint) → Solves σ xs → Solves σ ys → Solves σ (xs ++ ys)
        solves_both [] ys h k = k
        solves_both (x ∷ xs) ys h k = (h.0, solves_both xs ys h.1 k)

    -- an argument that is itself
    itself_has : (a : Term) (x : Var) → SameNames sc ls → itself (erased s) sc a ≡ Some x
        → (Γ : Context) → Fits sc ls Γ → VarHas (ConstructorHasType s) (FunctionHasType s σ) Γ x
        (F (term_type s ls a))
    itself_has (Name f at) x n e Γ h = by_meaning (means (erased s) sc f) (name_type s ls f at)
        (name_says f at n) e
      where
        by_meaning : (m : Meaning) (t : Typed) → NameSays m t → itself_as m ≡ Some x
            → VarHas (ConstructorHasType s) (FunctionHasType s σ) Γ x (F t)
        by_meaning (Local y) t k e = subst
            (λ x. VarHas (ConstructorHasType s) (FunctionHasType s σ) Γ x (F t)) (some_is e) (k Γ h)
        by_meaning (Function g zero) t k e =
            let u = function_used g 0 t k in
            let none : u.params ≡ [] = no_items u.params u.long in
            let q : F t ≡ u.result = u.type ∙ ap (λ ts. arrows ts u.result) none in
            subst (λ x. VarHas (ConstructorHasType s) (FunctionHasType s σ) Γ x (F t)) (some_is e)
            (subst (λ t. FunctionHasType s σ g [] t) (sym q)
            (subst (λ ts. FunctionHasType s σ g ts u.result) none u.has))
          where
            no_items : (ts : List Typed) → length ts ≡ 0 → ts ≡ []
            no_items [] e = refl
            no_items (t ∷ ts) e = absurd (omega (arith, e))
        by_meaning (Function g (suc k)) t h e = by_test (nat_eq (suc k) 0) refl e
          where
            by_test : (b : Bool) → nat_eq (suc k) 0 ≡ b → cond b (Some (var.Global g)) None ≡ Some x
                → VarHas (ConstructorHasType s) (FunctionHasType s σ) Γ x (F t)
            by_test true q e = let z : suc k ≡ 0 = eqb-true (suc k) 0 q in absurd (omega (arith, z))
            by_test false q e = none_is_some e
        by_meaning (Primitive op) t k e = none_is_some e
        by_meaning Unbound t k e = none_is_some e
    itself_has (Bracket head NoTerms at) x n e Γ h = itself_has head x n e Γ h
    itself_has (Bracket head (AndTerm a as') at) x n e Γ h = none_is_some e
    itself_has (Con c at) x n e Γ h = none_is_some e
    itself_has (Int k at) x n e Γ h = none_is_some e

    counted_inner : {n : ℕ} {inner form : Flat} {args : Terms} {news : List Bound}
        → IsApplied (erased s) sc n inner args news form → AllCounted p news → Counted p inner
    counted_inner (Applied a) h = h.0

    two_have : (Γ : Context) (op : PrimOp) (x y : Var) (ts : List Typed) (r : Typed)
        → Arrow types.Int (Arrow types.Int types.Int) ≡ arrows ts r
        → VarsHave (ConstructorHasType s) (FunctionHasType s σ) Γ (x ∷ y ∷ []) ts
        → FormHas (ConstructorHasType s) (FunctionHasType s σ) Γ (flat.Prim op x y) r
    two_have Γ op x y [] r e h = absurd h
    two_have Γ op x y (t ∷ []) r e h = absurd h.1
    two_have Γ op x y (t ∷ u ∷ []) r e h =
        let a : types.Int ≡ t = cc in
        let b : types.Int ≡ u = cc in
        let c : types.Int ≡ r = cc in (
          sym c,
          subst (λ t. VarHas (ConstructorHasType s) (FunctionHasType s σ) Γ x t) (sym a) h.0,
          subst (λ t. VarHas (ConstructorHasType s) (FunctionHasType s σ) Γ y t) (sym b) h.1.0,
        )
    two_have Γ op x y (t ∷ u ∷ v ∷ ts) r e h = absurd h.1.1

    mutual
      pub flat_has : {n : ℕ} {head : Term} {args : Terms} {news : List Bound} {form : Flat}
          → IsFlat (erased s) sc n head args news form → (r : Typed) → SameNames sc ls
          → F (term_type s ls head) ≡ arrows (args_types args) r → Solves σ (within_term s ls head)
          → Solves σ (within_terms s ls args) → AllCounted p news → Counted p form
          → FlatHas news form r
      flat_has Number r n e h k all c = record
          { types = []; long = refl; has = λ Γ f i. (tt, sym e) }
      flat_has (Constructor {c = con} {at = at} {number = number} {args = args} {xs = xs} q a) r n e
          h k all c =
          let w = args_have a n k all in
          let i = con_fits s p unbroken cons σ ρ con at number (length xs) (args_types args) r q c
          (args_long a) e in
          record {
            types = w.types;
            long = w.long;
            has = λ Γ f g. let v = w.has Γ f g
                in (v.0, (args_types args, i, v.1));
          }
      flat_has (Named {f = f} {at = at} d) r n e h k all c
          = named_has d (name_type s ls f at) r n (name_says f at n) e k all c
      flat_has (NumberApplied w) r n e h k all c = absurd cc
      flat_has (BracketApplied {at = at} {head = head} {a = a} {b = b} {as' = as'} {bs = bs}
          {news = news} inner news1 news2 d w q) r n e h k all c =
          let all' : AllCounted p (news1 ++ news2) = subst (AllCounted p) q all in
          let in_args = solves_right σ (within_term s ls head)
          (within_term s ls a ++ within_terms s ls as') h.1 in
          let in_head = solves_left σ (within_term s ls head)
          (within_term s ls a ++ within_terms s ls as') h.1 in
          let types : F (term_type s ls head) ≡ arrows (args_types (AndTerm a as'))
          (F (Open (AtBracket at))) = ap (instance ρ) h.0 ∙ carry_arrows F _ (both_carry σ ρ)
          (terms_types s ls (AndTerm a as')) (Open (AtBracket at)) in
          let first = flat_has d (F (Open (AtBracket at))) n types in_head in_args
          (all_left (λ b. Counted p b.flat) news1 news2 all')
          (counted_inner w (all_right (λ b. Counted p b.flat) news1 news2 all')) in
          applied_has w news1 news q (F (Open (AtBracket at))) r n first e k
          (all_right (λ b. Counted p b.flat) news1 news2 all')
      flat_has (LoneHead d) r n e h k all c = flat_has d r n e h k all c
      flat_has (LoneBracket {args = NoTerms} d) r n e h k all c = flat_has d r n e h tt all c
      flat_has (LoneBracket {at = at} {head = head} {args = AndTerm a as'} d) r n e h k all c =
          let in_args = solves_right σ (within_term s ls head)
          (within_term s ls a ++ within_terms s ls as') h.1 in
          let in_head = solves_left σ (within_term s ls head)
          (within_term s ls a ++ within_terms s ls as') h.1 in
          let types : F (term_type s ls head) ≡ arrows (args_types (AndTerm a as'))
          (F (Open (AtBracket at))) = ap (instance ρ) h.0 ∙ carry_arrows F _ (both_carry σ ρ)
          (terms_types s ls (AndTerm a as')) (Open (AtBracket at)) in
          flat_has d r n (types ∙ ap (arrows (args_types (AndTerm a as'))) e) in_head in_args all c

      named_has : {n : ℕ} {m : Meaning} {args : Terms} {news : List Bound} {form : Flat}
          → IsNamed (erased s) sc n m args news form → (t r : Typed) → SameNames sc ls
          → NameSays m t
          → F t ≡ arrows (args_types args) r → Solves σ (within_terms s ls args) → AllCounted p news
          → Counted p form → FlatHas news form r
      named_has (OfPrimitive {args = args} {op = op} {x = x} {y = y} a) t r n says e k all c =
          let w = args_have a n k all in
          let q : Arrow types.Int (Arrow types.Int types.Int) ≡ arrows (args_types args) r
          = sym (ap F says) ∙ e in
          record {
            types = w.types;
            long = w.long;
            has = λ Γ f g. let v = w.has Γ f g
                in (v.0, two_have Γ op x y (args_types args) r q v.1);
          }
      named_has (OfLocal {x = x} {args = args} a) t r n says e k all c =
          let w = args_have a n k all in
          record {
            types = w.types;
            long = w.long;
            has = λ Γ f g. let v = w.has Γ f g
                in (v.0, (args_types args, subst (λ t. Γ x ≡ Some t) e (says Γ f), v.1));
          }
      named_has (OfGlobal {g = g} {args = args} a) t r n says e k all c =
          let w = args_have a n k all in
          let u = function_used g 0 t says in
          let i = arrows_same u.params [] u.result (arrows (args_types args) r) u.long
          (sym u.type ∙ e) in
          let fun : FunctionHasType s σ g [] (arrows (args_types args) r)
          = subst (λ ts. FunctionHasType s σ g ts (arrows (args_types args) r)) i.0
          (subst (λ t. FunctionHasType s σ g u.params t) i.1 u.has) in
          record {
            types = w.types;
            long = w.long;
            has = λ Γ f g. let v = w.has Γ f g
                in (v.0, (args_types args, fun, v.1));
          }
      named_has (Called {g = g} {k = m} {args = args} {xs = xs} long a) t r n says e k all c =
          let w = args_have a n k all in
          let u = function_used g (suc m) t says in
          let i = arrows_same u.params (args_types args) u.result r
          (u.long ∙ sym long ∙ sym (args_long a)) (sym u.type ∙ e) in
          let fun : FunctionHasType s σ g (args_types args) r
          = subst (λ ts. FunctionHasType s σ g ts r) i.0
          (subst (λ t. FunctionHasType s σ g u.params t) i.1 u.has) in
          record {
            types = w.types;
            long = w.long;
            has = λ Γ f g. let v = w.has Γ f g
                in (v.0, (args_types args, fun, v.1));
          }
      named_has (Partial {g = g} {k = m} {args = args} {xs = xs} less a) t r n says e k all c =
          let w = args_have a n k all in
          let u = function_used g (suc m) t says in
          let l : length (args_types args) < length u.params = let x = args_long a in let y = u.long
          in omega (arith, less, x, y) in
          let i = arrows_fewer u.params (args_types args) u.result r l (sym u.type ∙ e) in
          let fun : FunctionHasType s σ g (args_types args ++ i.0 ∷ i.1) u.result
          = subst (λ ts. FunctionHasType s σ g ts u.result) i.2 u.has in
          record {
            types = w.types;
            long = w.long;
            has = λ Γ f g. let v = w.has Γ f g
                in (v.0, (args_types args, i.0, i.1, u.result, fun, i.3, v.1));
          }
      named_has
          (Exceeded {g = g} {k = m} {args = args} {news = news} first rest news1 news2 xs split some
          long a b q) t r n says e k all c =
          let all' : AllCounted p (news1 ++ news2) = subst (AllCounted p) q all in
          let k' = within_append first rest
          (subst (λ args. Solves σ (within_terms s ls args)) split k) in
          let w = args_have a n k'.0 (all_left (λ b. Counted p b.flat) news1 news2 all') in
          let u = function_used g (suc m) t says in
          let e' : arrows u.params u.result ≡ arrows (args_types first) (arrows (args_types rest) r)
          =
          sym u.type ∙ e ∙ ap (λ args. arrows (args_types args) r) split ∙ ap (λ ts. arrows ts r)
          (types_append first rest) ∙ arrows_append (args_types first) (args_types rest) r in
          let i = arrows_same u.params (args_types first) u.result (arrows (args_types rest) r)
          (u.long ∙ sym long ∙ sym (args_long a)) e' in
          let fun : FunctionHasType s σ g (args_types first) u.result
          = subst (λ ts. FunctionHasType s σ g ts u.result) i.0 u.has in
          let inner : FlatHas news1 (flat.Call g xs) u.result
          = record {
            types = w.types;
            long = w.long;
            has = λ Γ f g. let v = w.has Γ f g
                in (v.0, (args_types first, fun, v.1));
          } in
          applied_has b news1 news q u.result r n inner i.1 k'.1
          (all_right (λ b. Counted p b.flat) news1 news2 all')

      applied_has : {m : ℕ} {inner : Flat} {args : Terms} {news2 : List Bound} {form : Flat}
          → IsApplied (erased s) sc m inner args news2 form → (news1 news : List Bound)
          → news ≡ news1 ++ news2 → (u r : Typed) → SameNames sc ls
          → FlatHas news1 inner u → u ≡ arrows (args_types args) r
          → Solves σ (within_terms s ls args) → AllCounted p news2 → FlatHas news form r
      applied_has (Applied {n = m} {form = inner} {args = args} {news = news3} {xs = xs} a) news1
          news q u r n first e k all =
          let w = args_have a n k all.1 in
          let ts : List Typed = first.types ++ u ∷ w.types in
          let l1 = length-append news1 (bound m inner ∷ news3) in
          let l2 = length-append first.types (u ∷ w.types) in
          let l3 = first.long in
          let l4 = w.long in
          let long : length (news1 ++ bound m inner ∷ news3) ≡ length ts
          = omega (arith, l1, l2, l3, l4) in
          subst (λ news. FlatHas news (flat.Apply (var.Local m) xs) r) (sym q) (record {
            types = ts;
            long = long;
            has = λ Γ f g.
                let left = news_left Γ news1 (bound m inner ∷ news3) first.types (u ∷ w.types)
                first.long g in
                let right = news_right Γ news1 (bound m inner ∷ news3) first.types (u ∷ w.types)
                first.long g in
                let v1 = first.has Γ f left in
                let v2 = w.has Γ f right.1 in (
                  has_append Γ news1 (bound m inner ∷ news3) first.types (u ∷ w.types) v1.0
                      (v1.1, v2.0),
                  (args_types args, subst (λ t. Γ m ≡ Some t) e right.0, v2.1),
                );
          })

      args_have : {n : ℕ} {args : Terms} {news : List Bound} {xs : List Var}
          → AreArgs (erased s) sc n args news xs → SameNames sc ls
          → Solves σ (within_terms s ls args) → AllCounted p news
          → ArgsHave news xs (args_types args)
      args_have NoArgs n k all = record { types = []; long = refl; has = λ Γ f g. (tt, tt) }
      args_have (AndArg {a = a} {as' = as'} {x = x} {xs = xs} news1 news2 d ds q) n k all =
          let all' : AllCounted p (news1 ++ news2) = subst (AllCounted p) q all in
          let one = arg_has d n (solves_left σ (within_term s ls a) (within_terms s ls as') k)
          (all_left (λ b. Counted p b.flat) news1 news2 all') in
          let more = args_have ds n (solves_right σ (within_term s ls a) (within_terms s ls as') k)
          (all_right (λ b. Counted p b.flat) news1 news2 all') in
          let l1 = length-append news1 news2 in
          let l2 = length-append one.types more.types in
          let l3 = one.long in
          let l4 = more.long in
          let long : length (news1 ++ news2) ≡ length (one.types ++ more.types)
          = omega (arith, l1, l2, l3, l4) in
          subst (λ news. ArgsHave news (x ∷ xs) (args_types (AndTerm a as'))) (sym q) (record {
            types = one.types ++ more.types;
            long = long;
            has = λ Γ f g.
                let v1 = one.has Γ f (news_left Γ news1 news2 one.types more.types one.long g) in
                let v2 = more.has Γ f (news_right Γ news1 news2 one.types more.types one.long g) in
                (has_append Γ news1 news2 one.types more.types v1.0 v2.0, (v1.1, v2.1));
          })

      arg_has : {n : ℕ} {a : Term} {news : List Bound} {x : Var} → IsArg (erased s) sc n a news x
          → SameNames sc ls → Solves σ (within_term s ls a) → AllCounted p news
          → ArgHas news x (F (term_type s ls a))
      arg_has (Itself {a = a} {x = x} e) n k all = record
          { types = []; long = refl; has = λ Γ f g. (tt, itself_has a x n e Γ f) }
      arg_has (New {a = a} {news = news} {form = form} t none d place q) n k all =
          let all' : AllCounted p (news ++ bound t form ∷ []) = subst (AllCounted p) q all in
          let u : Typed = F (term_type s ls a) in
          let one = flat_has d u n refl k tt
          (all_left (λ b. Counted p b.flat) news (bound t form ∷ []) all')
          (all_right (λ b. Counted p b.flat) news (bound t form ∷ []) all').0 in
          let l1 = length-append news (bound t form ∷ []) in
          let l2 = length-append one.types (u ∷ []) in
          let l3 = one.long in
          let long : length (news ++ bound t form ∷ []) ≡ length (one.types ++ u ∷ [])
          = omega (arith, l1, l2, l3) in
          subst (λ group. ArgHas group (var.Local t) u) (sym q) (record {
            types = one.types ++ u ∷ [];
            long = long;
            has = λ Γ f g.
                let v = one.has Γ f
                (news_left Γ news (bound t form ∷ []) one.types (u ∷ []) one.long g) in
                let right = news_right Γ news (bound t form ∷ []) one.types (u ∷ []) one.long g in
                (has_append Γ news (bound t form ∷ []) one.types (u ∷ []) v.0 (v.1, tt), right.0);
          })
