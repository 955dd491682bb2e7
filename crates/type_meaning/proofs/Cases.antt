-- A case of a program that breaks no rule takes each value of its scrutinee's type.
use Rattle.std.proofs.Common.{◌≡◌, ◌≢◌, ℕ, zero, suc, Bool, true, false, cond, nat_eq, nat_lt, List, [], ◌∷◌, ◌++◌, Option, Some, None, slice_get, refl, sym, ap, ◌∙◌, subst, arith, eqb-true, inl, inr}
use Rattle.std.specs.Prelude.{◌⊎◌, ◌||◌, ℤ}
use Rattle.std.proofs.lemmas.Bool.{eq-eqb, ltb-true, ltb-false}
use Rattle.seq.proofs.Lists.{some_is, none_is_some}
use Rattle.core_reader.specs.declared.syntax.Binder.{Binder}
use Rattle.core_reader.specs.declared.syntax.Pattern.{Pattern}
use Rattle.core_reader.specs.declared.syntax.Pattern.TheVariants as pattern
use Rattle.core_reader.specs.Grammar.{IsNonemptyAlts}
use Rattle.core_reader.specs.Tree.{Expr, Alts, NoAlts, AndAlt}
use Rattle.arity_check.specs.Patterns.{alt_at}
use Rattle.arity_check.specs.Program as normal
use Rattle.arity_check.specs.Program.{Branches, NoMore, OnCon, OnInt, OnAny}
use Rattle.arity_check.specs.Scope.{Scope, con_number}
use Rattle.arity_check.specs.Normal.{Pairwise, IsConstructor, AreBranches, NoBranches, ConBranch, IntBranch, NamelessBranch, NamedBranch}
use Rattle.core_types.specs.Source.{Constructor, TypeDecl, Source, erased}
use Rattle.core_types.specs.Rules.{IsUnbroken, DuplicateType, IsPartial, OfIntegers, Lacks, type_with, names_constructor}
use Rattle.core_types.specs.Typing.{Typed, Named, AtScrutinee, constructor_by_name, constructor_in, applied, used_at, of_alts, scrutinee, Substitution, under, Solves, constraint}
use Rattle.core_types.specs.Typing as types
use Rattle.type_meaning.specs.Judgement.{Instance, instance, IsNamed, HasDefault, HasBranch, TakesAll}
use Rattle.type_meaning.specs.SourceTypes.{ConstructorHasType, FunctionHasType}
use Rattle.type_meaning.proofs.Readings.{under_both, both_carry, carry_applied}
use Rattle.type_meaning.proofs.Constructors.{declares, known}

-- the type that declares a constructor
in_names : (cs : List Constructor) (n : ℕ) (c : Constructor) → constructor_in cs n ≡ Some c
    → names_constructor n cs ≡ true
in_names [] n c e = none_is_some e
in_names (d ∷ cs) n c e = by_test (nat_eq d.name.name.0 n) e (in_names cs n c)
  where
    by_test : (b : Bool) → cond b (Some d) (constructor_in cs n) ≡ Some c
        → (constructor_in cs n ≡ Some c → names_constructor n cs ≡ true)
        → (b || names_constructor n cs) ≡ true
    by_test true e k = refl
    by_test false e k = k e

not_in_names : (cs : List Constructor) (n : ℕ) → constructor_in cs n ≡ None
    → names_constructor n cs ≡ false
not_in_names [] n e = refl
not_in_names (d ∷ cs) n e = by_test (nat_eq d.name.name.0 n) e (not_in_names cs n)
  where
    by_test : (b : Bool) → cond b (Some d) (constructor_in cs n) ≡ None
        → (constructor_in cs n ≡ None → names_constructor n cs ≡ false)
        → (b || names_constructor n cs) ≡ false
    by_test true e k = none_is_some (sym e)
    by_test false e k = k e

pub with_constructor : (ds : List TypeDecl) (n : ℕ) (d : TypeDecl) (c : Constructor)
    → constructor_by_name ds n ≡ Some (d, c) → type_with ds n ≡ Some d
with_constructor [] n d c e = none_is_some e
with_constructor (t ∷ ds) n d c e = by_found (constructor_in t.constructors n) refl e
    (with_constructor ds n d c)
  where
    by_found : (o : Option Constructor) → constructor_in t.constructors n ≡ o
        → elim o as (λ _. Option (TypeDecl × Constructor))
        [ Some c ↦ Some (t, c) | None ↦ constructor_by_name ds n ] ≡ Some (d, c)
        → (constructor_by_name ds n ≡ Some (d, c) → type_with ds n ≡ Some d)
        → cond (names_constructor n t.constructors) (Some t) (type_with ds n) ≡ Some d
    by_found (Some b) i e k = ap (λ b. cond b (Some t) (type_with ds n))
        (in_names t.constructors n b i) ∙ ap (λ (x : TypeDecl × Constructor). Some x.0) (some_is e)
    by_found None i e k = ap (λ b. cond b (Some t) (type_with ds n))
        (not_in_names t.constructors n i) ∙ k e

-- what the rules say of the alternatives of a case
pub record Complete (s : Source) (alts : Alts) : Type 0 where
  pub some : IsNonemptyAlts alts
  pub whole : (q : Pattern) → alt_at alts 0 ≡ Some q
      → ((j : ℕ) (x : Binder) → alt_at alts j ≢ Some (pattern.Default x)) → IsPartial s alts q → ⊥

module _ (s : Source) (p : normal.Program) (unbroken : IsUnbroken s)
    (cons : Pairwise (IsConstructor (erased s)) (erased s).constructors p.cons) where
  -- types with one name are one
  pub one_type : (i j : ℕ) (d e : TypeDecl) → slice_get s.types i ≡ Some d
      → slice_get s.types j ≡ Some e → e.name.name.0 ≡ d.name.name.0 → d ≡ e
  one_type i j d e a b q = by_test (nat_lt i j) (nat_lt j i) refl refl
    where
      by_test : (t u : Bool) → nat_lt i j ≡ t → nat_lt j i ≡ u → d ≡ e
      by_test true u k l = absurd (unbroken 81 e.name.at (DuplicateType (ltb-true i j k) a b q))
      by_test false true k l = absurd
          (unbroken 81 d.name.at (DuplicateType (ltb-true j i l) b a (sym q)))
      by_test false false k l =
          let le = ltb-false i j k in
          let ge = ltb-false j i l in
          let same : i ≡ j = omega (arith, le, ge) in
          some_is (sym a ∙ ap (λ n. slice_get s.types n) same ∙ b)

  -- a constructor of a type that is applied
  pub constructor_of : (c : ℕ) (ts : List Typed) (d : TypeDecl) (var : ℕ → Typed) (i : ℕ)
      → slice_get s.types i ≡ Some d → ConstructorHasType s c ts (applied s d var)
      → (e : Constructor) × (n : ℕ) × (j : ℕ) × (con_number (erased s) n ≡ Some c)
      × (e.name.name.0 ≡ n) × (slice_get d.constructors j ≡ Some e)
  constructor_of c ts d var i at h =
      let w = declares s.types h.name h.type h.constructor h.declared in
      let name : d.name.name.0 ≡ h.type.name.name.0 = name_is h.result in
      let same : h.type ≡ d = one_type w.type_place i h.type d w.type_at at name in (
        h.constructor,
        h.name,
        w.con_place,
        h.number,
        w.named,
        ap (λ (d : TypeDecl). slice_get d.constructors w.con_place) (sym same) ∙ w.con_at,
      )
    where
      name_is : {n m : ℕ} {a b : types.Types} → Named n a ≡ Named m b → n ≡ m
      name_is e = cc

  abbrev NoDefault : Alts → Type 0
  NoDefault alts = (j : ℕ) (x : Binder) → alt_at alts j ≢ Some (pattern.Default x)

  no_default_con : (X : Type 0) (at : Binder) (fields : List Binder) (body : Expr) (rest : Alts) → X
      ⊎ NoDefault rest → X ⊎ NoDefault (AndAlt (pattern.Con at fields) body rest)
  no_default_con X at fields body rest (inl h) = inl h
  no_default_con X at fields body rest (inr h) = inr go
    where
      go : (j : ℕ) (x : Binder) → alt_at (AndAlt (pattern.Con at fields) body rest) j ≢ Some
          (pattern.Default x)
      go zero x e = absurd cc
      go (suc j) x e = h j x e

  no_default_int : (X : Type 0) (k : ℤ) (at : ℕ) (body : Expr) (rest : Alts) → X ⊎ NoDefault rest
      → X ⊎ NoDefault (AndAlt (pattern.Int k at) body rest)
  no_default_int X k at body rest (inl h) = inl h
  no_default_int X k at body rest (inr h) = inr go
    where
      go : (j : ℕ) (x : Binder) → alt_at (AndAlt (pattern.Int k at) body rest) j ≢ Some
          (pattern.Default x)
      go zero x e = absurd cc
      go (suc j) x e = h j x e

  default_or : {sc : Scope} {n m : ℕ} {alts : Alts} {branches : Branches}
      → AreBranches (erased s) sc n alts branches m → HasDefault branches ⊎ NoDefault alts
  default_or NoBranches = inr (λ j x e. none_is_some e)
  default_or
      (ConBranch {at = at} {fields = fields} {body = body} {rest = rest} {branches = branches} xs e
      r a b) = no_default_con (HasDefault branches) at fields body rest (default_or b)
  default_or
      (IntBranch {at = at} {number = k} {body = body} {rest = rest} {branches = branches} a b)
      = no_default_int (HasDefault branches) k at body rest (default_or b)
  default_or (NamelessBranch e a b) = inl tt
  default_or (NamedBranch e a b) = inl tt

  -- the branch of a constructor, or none of the patterns has its name
  abbrev NoPattern : ℕ → Alts → Type 0
  NoPattern n alts = (j : ℕ) (b : Binder) (ys : List Binder)
      → alt_at alts j ≡ Some (pattern.Con b ys) → b.name.0 ≢ n

  no_pattern : (X : Type 0) (n : ℕ) (pat : Pattern) (body : Expr) (rest : Alts)
      → ((b : Binder) (ys : List Binder) → pat ≡ pattern.Con b ys → b.name.0 ≢ n) → X
      ⊎ NoPattern n rest → X ⊎ NoPattern n (AndAlt pat body rest)
  no_pattern X n pat body rest here (inl h) = inl h
  no_pattern X n pat body rest here (inr h) = inr go
    where
      go : (j : ℕ) (b : Binder) (ys : List Binder) → alt_at (AndAlt pat body rest) j ≡ Some
          (pattern.Con b ys) → b.name.0 ≢ n
      go zero b ys e = here b ys (some_is e)
      go (suc j) b ys e = h j b ys e

  branch_or : {sc : Scope} {n m : ℕ} {alts : Alts} {branches : Branches}
      → AreBranches (erased s) sc n alts branches m → (x number : ℕ)
      → con_number (erased s) x ≡ Some number → HasBranch number branches ⊎ NoPattern x alts
  branch_or NoBranches x number q = inr (λ j b ys e. none_is_some e)
  branch_or
      (ConBranch {number = here} {at = at} {fields = fields} {body = body} {rest = rest}
      {branches = branches} xs e r a b) x number q = by_test (nat_eq at.name.0 x) refl
      (branch_or b x number q)
    where
      binder_is : {b : Binder} {ys : List Binder} → pattern.Con at fields ≡ pattern.Con b ys
          → at ≡ b
      binder_is e = cc

      wrap : HasBranch number branches ⊎ NoPattern x rest
          → ((number ≡ here) ⊎ HasBranch number branches) ⊎ NoPattern x rest
      wrap (inl h) = inl (inr h)
      wrap (inr h) = inr h

      by_test : (t : Bool) → nat_eq at.name.0 x ≡ t → HasBranch number branches ⊎ NoPattern x rest
          → ((number ≡ here) ⊎ HasBranch number branches)
          ⊎ NoPattern x (AndAlt (pattern.Con at fields) body rest)
      by_test true i h =
          let same : at.name.0 ≡ x = eqb-true at.name.0 x i in
          inl (inl (some_is (sym q ∙ ap (λ n. con_number (erased s) n) (sym same) ∙ e)))
      by_test false i h =
          no_pattern ((number ≡ here) ⊎ HasBranch number branches) x (pattern.Con at fields) body
          rest
          (λ b ys c d. let z : true ≡ false = sym
          (eq-eqb at.name.0 x (ap (λ (b : Binder). b.name.0) (binder_is c) ∙ d)) ∙ i
          in absurd cc) (wrap h)
  branch_or (IntBranch {at = at} {number = k} {body = body} {rest = rest} {branches = branches} a b)
      x number q =
      no_pattern (HasBranch number branches) x (pattern.Int k at) body rest (λ b ys c d. absurd cc)
      (branch_or b x number q)
  branch_or (NamelessBranch e a b) x number q = inl tt
  branch_or (NamedBranch e a b) x number q = inl tt

  module _ (σ : Substitution) (ρ : Instance) where
    abbrev F : Typed → Typed
    F t = under_both σ ρ t

    -- a pattern of a constructor gives the scrutinee the type that declares it
    pub scrutinee_is : (v : Typed) (c : Binder) (d : TypeDecl)
        → under σ v ≡ under σ (applied s d (used_at s c.at))
        → F v ≡ applied s d (λ n. F (used_at s c.at n))
    scrutinee_is v c d e = ap (instance ρ) e ∙ carry_applied F _ (both_carry σ ρ) s (used_at s c.at)
        d

    pub takes_all : {sc : Scope} {n m : ℕ} {alts : Alts} {branches : Branches} (ls : types.Locals)
        (u : Typed) → AreBranches (erased s) sc n alts branches m → Complete s alts
        → Solves σ (of_alts s ls (scrutinee s alts) u alts)
        → TakesAll (ConstructorHasType s) (FunctionHasType s σ) (F (scrutinee s alts)) branches
    takes_all {alts = alts} {branches = branches} ls u d complete solved = by_default (default_or d)
      where
        by_pattern : (alts : Alts) → Complete s alts → NoDefault alts
            → ((x number : ℕ) → con_number (erased s) x ≡ Some number → HasBranch number branches
            ⊎ NoPattern x alts)
            → ((c : Binder) (fields : List Binder) → alt_at alts 0 ≡ Some (pattern.Con c fields)
            → (number : ℕ) × (con_number (erased s) c.name.0 ≡ Some number))
            → Solves σ (of_alts s ls (scrutinee s alts) u alts)
            → TakesAll (ConstructorHasType s) (FunctionHasType s σ) (F (scrutinee s alts))
            branches
        by_pattern NoAlts complete none has numbers solved = absurd complete.some
        by_pattern (AndAlt (pattern.Int k at) body rest) complete none has numbers solved
            = absurd (complete.whole (pattern.Int k at) refl none (OfIntegers 0 refl))
        by_pattern (AndAlt (pattern.Default x) body rest) complete none has numbers solved
            = absurd (none 0 x refl)
        by_pattern (AndAlt (pattern.Con c fields) body rest) complete none has numbers solved =
            let number = numbers c fields refl in
            let k = known s p unbroken cons c.name.0 number.0 number.1 in
            let v : Typed = types.Open (AtScrutinee c.at) in
            let first : under σ v ≡ under σ (applied s k.type (used_at s c.at)) =
            (subst (λ o. Solves σ
            (elim o as (λ _. List types.Constraint)
            [ Some x ↦ constraint s c.at v (applied s x.0 (used_at s c.at)) ∷ [] | None ↦ [] ]
            ++ (types.of_expr s (types.with_pattern s v (pattern.Con c fields) ls) u body
            ++ of_alts s ls v u rest))) k.declared solved).0 in
            let var : ℕ → Typed = λ n. F (used_at s c.at n) in
            let is : F v ≡ applied s k.type var = scrutinee_is v c k.type first in
            let w = declares s.types c.name.0 k.type k.constructor k.declared in
            inr (
              subst IsNamed (sym is) tt,
              λ number' ts h.
                  let e = constructor_of number' ts k.type var w.type_place w.type_at
                  (subst (λ t. ConstructorHasType s number' ts t) is h) in
                  by_branch (has e.1 number' e.3)
                  (λ absent. complete.whole (pattern.Con c fields) refl none
                  (Lacks e.2 (with_constructor s.types c.name.0 k.type k.constructor k.declared)
                  e.5 (λ j b ys q r. absent j b ys q (r ∙ e.4)))),
            )
          where
            by_branch : {X Y : Type 0} → X ⊎ Y → (Y → ⊥) → X
            by_branch (inl x) never = x
            by_branch (inr y) never = absurd (never y)

        first_number : {sc : Scope} {n m : ℕ} {alts : Alts} {branches : Branches}
            → AreBranches (erased s) sc n alts branches m → (c : Binder) (fields : List Binder)
            → alt_at alts 0 ≡ Some (pattern.Con c fields)
            → (number : ℕ) × (con_number (erased s) c.name.0 ≡ Some number)
        first_number NoBranches c fields e = none_is_some e
        first_number (ConBranch {number = number} {at = at} {fields = ys} xs q r a b) c fields e
            = (
              number,
              ap (λ (b : Binder). con_number (erased s) b.name.0)
                  (sym (binder_is (some_is e))) ∙ q,
            )
          where
            binder_is : {b : Binder} → pattern.Con at ys ≡ pattern.Con b fields → at ≡ b
            binder_is e = cc
        first_number (IntBranch a b) c fields e = absurd cc
        first_number (NamelessBranch q a b) c fields e = absurd cc
        first_number (NamedBranch q a b) c fields e = absurd cc

        by_default : HasDefault branches ⊎ NoDefault alts
            → TakesAll (ConstructorHasType s) (FunctionHasType s σ) (F (scrutinee s alts)) branches
        by_default (inl h) = inl h
        by_default (inr none) = by_pattern alts complete none (branch_or d) (first_number d) solved
