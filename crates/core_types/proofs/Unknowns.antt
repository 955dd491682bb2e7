-- What the walks over declarations find is what breaks the rules.
use Rattle.std.proofs.Common.{◌≡◌, ℕ, zero, suc, Bool, true, false, List, [], ◌∷◌, refl, sym, ap, subst, ◌∙◌, Option, Some, None, ◌⊎◌, inl, inr}
use Rattle.std.specs.Prelude.{◌≢◌, ◌==◌, ◌||◌, not, slice_get, if◌then◌else◌}
use Rattle.std.proofs.lemmas.Bool.{eqb-true, eq-eqb}
use Rattle.seq.proofs.Truth.{two_ways}
use Rattle.core_reader.specs.declared.syntax.Binder.{Binder}
use Rattle.arity_check.specs.Faults.{with_member}
use Rattle.arity_check.specs.Whole.{known_of}
use Rattle.arity_check.proofs.Names.{int_named}
use Rattle.core_types.specs.Source.{Written, WrittenTypes, Var, Named, Arrow, NoTypes, AndType, Constructor, TypeDecl, Signature, Source, count, erased}
use Rattle.core_types.specs.Rules.{Has, HasIn, IsBound, type_arity, parameters, InFields, Stands, InType, InArgument, InResult, Broken}
use Rattle.core_types.specs.Rules as rules
use Rattle.core_types.specs.Found.{IsFirstPlaceWhere, earlier_place_if, with_all_seen, same_count, params_of, unknown_in, unknown_in_all, unknown_in_fields, unknown_in_types, unknown_in_signatures, first_unknown_name}
use Rattle.core_types.proofs.Firsts.{Here, Adds, here_adds, then_adds, none_adds, all_added}

pub is_not : (b : Bool) → not b ≡ true → b ≡ false
is_not true e = absurd cc
is_not false e = refl

pub not_is : (b : Bool) → b ≡ false → not b ≡ true
not_is true e = absurd cc
not_is false e = refl

false_true : (b : Bool) → b ≡ false → b ≡ true → ⊥
false_true true e f = cc
false_true false e f = cc

not_so : (b : Bool) → (b ≡ true → ⊥) → b ≡ false
not_so true h = absurd (h refl)
not_so false h = refl

-- ---- unknown names in a type

module _ (known : ℕ → Option ℕ) where
  abbrev Miscounted : Binder → WrittenTypes → Bool
  Miscounted b args = not (same_count (known b.name.0) (count args))

  abbrev mutual
    pub UnknownIn : (ℕ → Bool) → Written → ℕ → Type 0
    UnknownIn bound (Var b) at = Here (not (bound b.name.0)) b.at at
    UnknownIn bound (Named b args) at = Here (Miscounted b args) b.at at
        ⊎ UnknownInAll bound args at
    UnknownIn bound (Arrow from to) at = UnknownIn bound from at ⊎ UnknownIn bound to at

    pub UnknownInAll : (ℕ → Bool) → WrittenTypes → ℕ → Type 0
    UnknownInAll bound NoTypes at = ⊥
    UnknownInAll bound (AndType t ts) at = UnknownIn bound t at ⊎ UnknownInAll bound ts at

  mutual
    unknown_adds : (bound : ℕ → Bool) (t : Written)
        → Adds (UnknownIn bound t) (λ o. unknown_in known bound o t)
    unknown_adds bound (Var b) = here_adds (not (bound b.name.0)) b.at
    unknown_adds bound (Named b args) = then_adds (Here (Miscounted b args) b.at)
        (UnknownInAll bound args) (λ o. earlier_place_if (Miscounted b args) o b.at)
        (λ o. unknown_in_all known bound o args) (here_adds (Miscounted b args) b.at)
        (unknown_all_adds bound args)
    unknown_adds bound (Arrow from to) = then_adds (UnknownIn bound from) (UnknownIn bound to)
        (λ o. unknown_in known bound o from) (λ o. unknown_in known bound o to)
        (unknown_adds bound from) (unknown_adds bound to)

    unknown_all_adds : (bound : ℕ → Bool) (ts : WrittenTypes)
        → Adds (UnknownInAll bound ts) (λ o. unknown_in_all known bound o ts)
    unknown_all_adds bound NoTypes = none_adds
    unknown_all_adds bound (AndType t ts) = then_adds (UnknownIn bound t) (UnknownInAll bound ts)
        (λ o. unknown_in known bound o t) (λ o. unknown_in_all known bound o ts)
        (unknown_adds bound t) (unknown_all_adds bound ts)

  -- among the types of which Q holds one is unknown
  pub data Unknown (Q : Written → Type 0) (bound : ℕ → Bool) (at : ℕ) : Type 0 where
    OfType : (b : Binder) (args : WrittenTypes) → Q (Named b args)
        → same_count (known b.name.0) (count args) ≡ false → b.at ≡ at → Unknown Q bound at
    OfVariable : (x : Binder) → Q (Var x) → bound x.name.0 ≡ false → x.at ≡ at → Unknown Q bound at

  pub lifted : (Q R : Written → Type 0) (bound : ℕ → Bool) (at : ℕ) → ((u : Written) → Q u → R u)
      → Unknown Q bound at → Unknown R bound at
  lifted Q R bound at f (OfType b args q s e) = OfType b args (f (Named b args) q) s e
  lifted Q R bound at f (OfVariable x q s e) = OfVariable x (f (Var x) q) s e

  mutual
    to_unknown : (bound : ℕ → Bool) (t : Written) (at : ℕ) → UnknownIn bound t at
        → Unknown (Has t) bound at
    to_unknown bound (Var b) at h = OfVariable b refl (is_not (bound b.name.0) h.0) h.1
    to_unknown bound (Named b args) at (inl h) = OfType b args (inl refl)
        (is_not (same_count (known b.name.0) (count args)) h.0) h.1
    to_unknown bound (Named b args) at (inr h) = lifted (HasIn args) (Has (Named b args)) bound at
        (λ u q. inr q) (to_unknown_all bound args at h)
    to_unknown bound (Arrow from to) at (inl h) = lifted (Has from) (Has (Arrow from to)) bound at
        (λ u q. inr (inl q)) (to_unknown bound from at h)
    to_unknown bound (Arrow from to) at (inr h) = lifted (Has to) (Has (Arrow from to)) bound at
        (λ u q. inr (inr q)) (to_unknown bound to at h)

    to_unknown_all : (bound : ℕ → Bool) (ts : WrittenTypes) (at : ℕ) → UnknownInAll bound ts at
        → Unknown (HasIn ts) bound at
    to_unknown_all bound NoTypes at h = absurd h
    to_unknown_all bound (AndType t ts) at (inl h) = lifted (Has t) (HasIn (AndType t ts)) bound at
        (λ u q. inl q) (to_unknown bound t at h)
    to_unknown_all bound (AndType t ts) at (inr h) = lifted (HasIn ts) (HasIn (AndType t ts)) bound
        at (λ u q. inr q) (to_unknown_all bound ts at h)

  var_named : (x b : Binder) (args : WrittenTypes) → Named b args ≡ Var x → ⊥
  var_named x b args e = cc

  var_arrow : (x : Binder) (f t : Written) → Var x ≡ Arrow f t → ⊥
  var_arrow x f t e = cc

  named_arrow : (b : Binder) (args : WrittenTypes) (f t : Written) → Named b args ≡ Arrow f t → ⊥
  named_arrow b args f t e = cc

  mutual
    miscounted_in : (bound : ℕ → Bool) (t : Written) (b : Binder) (args : WrittenTypes)
        → same_count (known b.name.0) (count args) ≡ false → Has t (Named b args)
        → UnknownIn bound t b.at
    miscounted_in bound (Var x) b args s h = absurd (var_named x b args h)
    miscounted_in bound (Named c xs) b args s (inl e)
        = subst (λ u. UnknownIn bound u b.at) e
        (inl (not_is (same_count (known b.name.0) (count args)) s, refl))
    miscounted_in bound (Named c xs) b args s (inr h) = inr (miscounted_in_all bound xs b args s h)
    miscounted_in bound (Arrow from to) b args s (inl e) = absurd (named_arrow b args from to e)
    miscounted_in bound (Arrow from to) b args s (inr (inl h))
        = inl (miscounted_in bound from b args s h)
    miscounted_in bound (Arrow from to) b args s (inr (inr h))
        = inr (miscounted_in bound to b args s h)

    miscounted_in_all : (bound : ℕ → Bool) (ts : WrittenTypes) (b : Binder) (args : WrittenTypes)
        → same_count (known b.name.0) (count args) ≡ false → HasIn ts (Named b args)
        → UnknownInAll bound ts b.at
    miscounted_in_all bound NoTypes b args s h = absurd h
    miscounted_in_all bound (AndType t ts) b args s (inl h) = inl (miscounted_in bound t b args s h)
    miscounted_in_all bound (AndType t ts) b args s (inr h)
        = inr (miscounted_in_all bound ts b args s h)

  mutual
    unbound_in : (bound : ℕ → Bool) (t : Written) (x : Binder) → bound x.name.0 ≡ false
        → Has t (Var x) → UnknownIn bound t x.at
    unbound_in bound (Var b) x s h = subst (λ u. UnknownIn bound u x.at) h
        (not_is (bound x.name.0) s, refl)
    unbound_in bound (Named c xs) x s (inl e) = absurd (var_named x c xs (sym e))
    unbound_in bound (Named c xs) x s (inr h) = inr (unbound_in_all bound xs x s h)
    unbound_in bound (Arrow from to) x s (inl e) = absurd (var_arrow x from to e)
    unbound_in bound (Arrow from to) x s (inr (inl h)) = inl (unbound_in bound from x s h)
    unbound_in bound (Arrow from to) x s (inr (inr h)) = inr (unbound_in bound to x s h)

    unbound_in_all : (bound : ℕ → Bool) (ts : WrittenTypes) (x : Binder) → bound x.name.0 ≡ false
        → HasIn ts (Var x) → UnknownInAll bound ts x.at
    unbound_in_all bound NoTypes x s h = absurd h
    unbound_in_all bound (AndType t ts) x s (inl h) = inl (unbound_in bound t x s h)
    unbound_in_all bound (AndType t ts) x s (inr h) = inr (unbound_in_all bound ts x s h)

  -- ---- in all declarations

  abbrev FieldsUnknown : (ℕ → Bool) → List Constructor → ℕ → Type 0
  FieldsUnknown bound [] at = ⊥
  FieldsUnknown bound (c ∷ cs) at = UnknownInAll bound c.fields at ⊎ FieldsUnknown bound cs at

  abbrev bound_by : TypeDecl → ℕ → Bool
  bound_by d = with_all_seen (λ n. false) d.params

  abbrev TypesUnknown : List TypeDecl → ℕ → Type 0
  TypesUnknown [] at = ⊥
  TypesUnknown (d ∷ ds) at = FieldsUnknown (bound_by d) d.constructors at ⊎ TypesUnknown ds at

  abbrev any : ℕ → Bool
  any n = true

  abbrev SignaturesUnknown : List Signature → ℕ → Type 0
  SignaturesUnknown [] at = ⊥
  SignaturesUnknown (g ∷ gs) at = (UnknownInAll any g.args at ⊎ UnknownIn any g.result at)
      ⊎ SignaturesUnknown gs at

  fields_adds : (bound : ℕ → Bool) (cs : List Constructor)
      → Adds (FieldsUnknown bound cs) (λ o. unknown_in_fields known bound o cs)
  fields_adds bound [] = none_adds
  fields_adds bound (c ∷ cs) = then_adds (UnknownInAll bound c.fields) (FieldsUnknown bound cs)
      (λ o. unknown_in_all known bound o c.fields) (λ o. unknown_in_fields known bound o cs)
      (unknown_all_adds bound c.fields) (fields_adds bound cs)

  types_adds : (ds : List TypeDecl) → Adds (TypesUnknown ds) (λ o. unknown_in_types known o ds)
  types_adds [] = none_adds
  types_adds (d ∷ ds) = then_adds (FieldsUnknown (bound_by d) d.constructors) (TypesUnknown ds)
      (λ o. unknown_in_fields known (bound_by d) o d.constructors)
      (λ o. unknown_in_types known o ds) (fields_adds (bound_by d) d.constructors) (types_adds ds)

  signatures_adds : (gs : List Signature) → Adds (SignaturesUnknown gs)
      (λ o. unknown_in_signatures known o gs)
  signatures_adds [] = none_adds
  signatures_adds (g ∷ gs) =
      then_adds (λ at. UnknownInAll any g.args at ⊎ UnknownIn any g.result at)
      (SignaturesUnknown gs)
      (λ o. unknown_in known any (unknown_in_all known any o g.args) g.result)
      (λ o. unknown_in_signatures known o gs)
      (then_adds (UnknownInAll any g.args) (UnknownIn any g.result)
      (λ o. unknown_in_all known any o g.args) (λ o. unknown_in known any o g.result)
      (unknown_all_adds any g.args) (unknown_adds any g.result)) (signatures_adds gs)

  abbrev FieldOf : List Constructor → Written → Type 0
  FieldOf cs u = (j : ℕ) × (c : Constructor) × (slice_get cs j ≡ Some c) × HasIn c.fields u

  later_field : (c : Constructor) (cs : List Constructor) (u : Written) → FieldOf cs u
      → FieldOf (c ∷ cs) u
  later_field c cs u h = (suc h.0, h.1, h.2, h.3)

  to_fields : (bound : ℕ → Bool) (cs : List Constructor) (at : ℕ) → FieldsUnknown bound cs at
      → Unknown (FieldOf cs) bound at
  to_fields bound [] at h = absurd h
  to_fields bound (c ∷ cs) at (inl h) = lifted (HasIn c.fields) (FieldOf (c ∷ cs)) bound at
      (λ u q. (zero, c, refl, q)) (to_unknown_all bound c.fields at h)
  to_fields bound (c ∷ cs) at (inr h) = lifted (FieldOf cs) (FieldOf (c ∷ cs)) bound at
      (later_field c cs) (to_fields bound cs at h)

  -- the place of what stands in a field
  fields_have : (bound : ℕ → Bool) (cs : List Constructor) (j : ℕ) (c : Constructor) (at : ℕ)
      → slice_get cs j ≡ Some c → UnknownInAll bound c.fields at → FieldsUnknown bound cs at
  fields_have bound [] j c at e h = absurd cc
  fields_have bound (d ∷ cs) zero c at e h = let same : d ≡ c = cc
      in inl (subst (λ (w : Constructor). UnknownInAll bound w.fields at) (sym same) h)
  fields_have bound (d ∷ cs) (suc j) c at e h = inr (fields_have bound cs j c at e h)

  pub record TypeUnknown (ds : List TypeDecl) (at : ℕ) : Type 0 where
    pub i : ℕ
    pub decl : TypeDecl
    pub is : slice_get ds i ≡ Some decl
    pub unknown : Unknown (FieldOf decl.constructors) (bound_by decl) at

  to_types : (ds : List TypeDecl) (at : ℕ) → TypesUnknown ds at → TypeUnknown ds at
  to_types [] at h = absurd h
  to_types (d ∷ ds) at (inl h) = record
      { i = zero; decl = d; is = refl; unknown = to_fields (bound_by d) d.constructors at h }
  to_types (d ∷ ds) at (inr h) = let w = to_types ds at h
      in record { i = suc w.i; decl = w.decl; is = w.is; unknown = w.unknown }

  types_have : (ds : List TypeDecl) (i : ℕ) (d : TypeDecl) (at : ℕ) → slice_get ds i ≡ Some d
      → FieldsUnknown (bound_by d) d.constructors at → TypesUnknown ds at
  types_have [] i d at e h = absurd cc
  types_have (c ∷ ds) zero d at e h = let same : c ≡ d = cc
      in inl (subst (λ (w : TypeDecl). FieldsUnknown (bound_by w) w.constructors at) (sym same) h)
  types_have (c ∷ ds) (suc i) d at e h = inr (types_have ds i d at e h)

  abbrev InSignature : Signature → Written → Type 0
  InSignature g u = HasIn g.args u ⊎ Has g.result u

  pub record SignatureUnknown (gs : List Signature) (at : ℕ) : Type 0 where
    pub i : ℕ
    pub signature : Signature
    pub is : slice_get gs i ≡ Some signature
    pub unknown : Unknown (InSignature signature) any at

  to_signatures : (gs : List Signature) (at : ℕ) → SignaturesUnknown gs at → SignatureUnknown gs at
  to_signatures [] at h = absurd h
  to_signatures (g ∷ gs) at (inl (inl h)) = record {
    i = zero;
    signature = g;
    is = refl;
    unknown
        = lifted (HasIn g.args) (InSignature g) any at (λ u q. inl q)
        (to_unknown_all any g.args at h);
  }
  to_signatures (g ∷ gs) at (inl (inr h)) = record {
    i = zero;
    signature = g;
    is = refl;
    unknown
        = lifted (Has g.result) (InSignature g) any at (λ u q. inr q)
        (to_unknown any g.result at h);
  }
  to_signatures (g ∷ gs) at (inr h) = let w = to_signatures gs at h
      in record { i = suc w.i; signature = w.signature; is = w.is; unknown = w.unknown }

  signatures_have : (gs : List Signature) (i : ℕ) (g : Signature) (at : ℕ) → slice_get gs i ≡ Some g
      → UnknownInAll any g.args at ⊎ UnknownIn any g.result at → SignaturesUnknown gs at
  signatures_have [] i g at e h = absurd cc
  signatures_have (f ∷ gs) zero g at e h = let same : f ≡ g = cc
      in inl (subst (λ (w : Signature). UnknownInAll any w.args at ⊎ UnknownIn any w.result at)
      (sym same) h)
  signatures_have (f ∷ gs) (suc i) g at e h = inr (signatures_have gs i g at e h)

-- ---- names that were seen

pub also_parts : (x n : ℕ) (seen : ℕ → Bool) → with_member x seen n ≡ true → (x ≡ n)
    ⊎ (seen n ≡ true)
also_parts x n seen e = elim (two_ways (x == n))
    [ inl y ↦ inl (eqb-true x n y) | inr m ↦ inr (sym (ap (λ b. b || seen n) m) ∙ e) ]

pub also_same : (x n : ℕ) (seen : ℕ → Bool) → x ≡ n → with_member x seen n ≡ true
also_same x n seen e = ap (λ b. b || seen n) (eq-eqb x n e)

or_true : (b : Bool) → (b || true) ≡ true
or_true true = refl
or_true false = refl

pub also_before : (x n : ℕ) (seen : ℕ → Bool) → seen n ≡ true → with_member x seen n ≡ true
also_before x n seen e = ap (λ b. (x == n) || b) e ∙ or_true (x == n)

-- the name stands in the list
abbrev pub StandsIn : List Binder → ℕ → Type 0
StandsIn xs n = IsBound xs n

seen_before : (seen : ℕ → Bool) (xs : List Binder) (n : ℕ) → seen n ≡ true
    → with_all_seen seen xs n ≡ true
seen_before seen [] n e = e
seen_before seen (x ∷ xs) n e = seen_before (with_member x.name.0 seen) xs n
    (also_before x.name.0 n seen e)

seen_in : (seen : ℕ → Bool) (xs : List Binder) (n : ℕ) → with_all_seen seen xs n ≡ true
    → (seen n ≡ true) ⊎ StandsIn xs n
seen_in seen [] n e = inl e
seen_in seen (x ∷ xs) n e = elim (seen_in (with_member x.name.0 seen) xs n e) [
  | inl a ↦ elim (also_parts x.name.0 n seen a) [ inl y ↦ inr (zero, x, refl, y) | inr b ↦ inl b ]
  | inr h ↦ inr (suc h.0, h.1, h.2, h.3)
]

in_seen : (seen : ℕ → Bool) (xs : List Binder) (n i : ℕ) (x : Binder) → slice_get xs i ≡ Some x
    → x.name.0 ≡ n → with_all_seen seen xs n ≡ true
in_seen seen [] n i x e f = absurd cc
in_seen seen (y ∷ xs) n zero x e f =
    let same : y ≡ x = cc in
    seen_before (with_member y.name.0 seen) xs n
    (also_same y.name.0 n seen (ap (λ (w : Binder). w.name.0) same ∙ f))
in_seen seen (y ∷ xs) n (suc i) x e f = in_seen (with_member y.name.0 seen) xs n i x e f

pub unbound_if : (xs : List Binder) (n : ℕ) → with_all_seen (λ n. false) xs n ≡ false → IsBound xs n
    → ⊥
unbound_if xs n e h = false_true (with_all_seen (λ n. false) xs n) e
    (in_seen (λ n. false) xs n h.0 h.1 h.2 h.3)

nothing_seen : (xs : List Binder) (n : ℕ) → (false ≡ true) ⊎ StandsIn xs n → StandsIn xs n
nothing_seen xs n (inl e) = absurd cc
nothing_seen xs n (inr h) = h

pub if_unbound : (xs : List Binder) (n : ℕ) → (IsBound xs n → ⊥)
    → with_all_seen (λ n. false) xs n ≡ false
if_unbound xs n h = not_so (with_all_seen (λ n. false) xs n)
    (λ e. h (nothing_seen xs n (seen_in (λ n. false) xs n e)))

-- ---- a type's name, or a variable

same_some : (o : Option ℕ) (n : ℕ) → o ≡ Some n → same_count o n ≡ true
same_some None n e = absurd cc
same_some (Some m) n e = let f : m ≡ n = cc in eq-eqb m n f

some_same : (o : Option ℕ) (n : ℕ) → same_count o n ≡ true → o ≡ Some n
some_same None n e = absurd cc
some_same (Some m) n e = ap Some (eqb-true m n e)

other_count : (o : Option ℕ) (n : ℕ) → same_count o n ≡ false → o ≢ Some n
other_count o n e f = false_true (same_count o n) e (same_some o n f)

count_other : (o : Option ℕ) (n : ℕ) → o ≢ Some n → same_count o n ≡ false
count_other o n h = not_so (same_count o n) (λ e. h (some_same o n e))

module _ (s : Source) where
  abbrev known : ℕ → Option ℕ
  known = params_of (known_of (erased s)) s.types

  known_is : (n : ℕ) → known n ≡ parameters s n
  known_is n = ap (λ b. if b then Some 0 else type_arity s.types n) (int_named (erased s) n)

  abbrev pub Rule82 : ℕ → Type 0
  Rule82 at = TypesUnknown known s.types at ⊎ SignaturesUnknown known s.signatures at

  misnamed : (b : Binder) (args : WrittenTypes) → same_count (known b.name.0) (count args) ≡ false
      → parameters s b.name.0 ≢ Some (count args)
  misnamed b args e f = other_count (known b.name.0) (count args) e (known_is b.name.0 ∙ f)

  named_so : (b : Binder) (args : WrittenTypes) → parameters s b.name.0 ≢ Some (count args)
      → same_count (known b.name.0) (count args) ≡ false
  named_so b args h = count_other (known b.name.0) (count args)
      (λ e. h (sym (known_is b.name.0) ∙ e))

  field_breaks : (d : TypeDecl) (i at : ℕ) → slice_get s.types i ≡ Some d
      → Unknown known (FieldOf known d.constructors) (bound_by known d) at → Broken s 82 at
  field_breaks d i at e (OfType b args q m p) = subst (Broken s 82) p
      (rules.UnknownType (InType i e q) (misnamed b args m))
  field_breaks d i at e (OfVariable x q m p) = subst (Broken s 82) p
      (rules.UnknownVariable i e q (unbound_if d.params x.name.0 m))

  stands_in : (g : Signature) (i : ℕ) (u : Written) → slice_get s.signatures i ≡ Some g
      → InSignature known g u → Stands s u
  stands_in g i u e (inl h) = InArgument i e h
  stands_in g i u e (inr h) = InResult i e h

  signature_breaks : (g : Signature) (i at : ℕ) → slice_get s.signatures i ≡ Some g
      → Unknown known (InSignature known g) (any known) at → Broken s 82 at
  signature_breaks g i at e (OfType b args q m p) = subst (Broken s 82) p
      (rules.UnknownType (stands_in g i (Named b args) e q) (misnamed b args m))
  signature_breaks g i at e (OfVariable x q m p) = absurd cc

  breaks : (at : ℕ) → Rule82 at → Broken s 82 at
  breaks at (inl h) = let w = to_types known s.types at h
      in field_breaks w.decl w.i at w.is w.unknown
  breaks at (inr h) = let w = to_signatures known s.signatures at h
      in signature_breaks w.signature w.i at w.is w.unknown

  stands_unknown : (b : Binder) (args : WrittenTypes)
      → same_count (known b.name.0) (count args) ≡ false → Stands s (Named b args) → Rule82 b.at
  stands_unknown b args m (InType {d = d} i e h) = inl
      (types_have known s.types i d b.at e
      (fields_have known (bound_by known d) d.constructors h.0 h.1 b.at h.2
      (miscounted_in_all known (bound_by known d) h.1.fields b args m h.3)))
  stands_unknown b args m (InArgument {g = g} i e h)
      = inr (signatures_have known s.signatures i g b.at e
      (inl (miscounted_in_all known (any known) g.args b args m h)))
  stands_unknown b args m (InResult {g = g} i e h) = inr
      (signatures_have known s.signatures i g b.at e
      (inr (miscounted_in known (any known) g.result b args m h)))

  pub unknown_breaks : (at : ℕ) → Rule82 at → Broken s 82 at
  unknown_breaks at h = breaks at h

  pub type_unknown : (b : Binder) (args : WrittenTypes) → Stands s (Named b args)
      → parameters s b.name.0 ≢ Some (count args) → Rule82 b.at
  type_unknown b args h m = stands_unknown b args (named_so b args m) h

  pub variable_unknown : (d : TypeDecl) (x : Binder) (i : ℕ) → slice_get s.types i ≡ Some d
      → InFields s d (Var x) → (IsBound d.params x.name.0 → ⊥) → Rule82 x.at
  variable_unknown d x i e h u =
      inl (types_have known s.types i d x.at e
      (fields_have known (bound_by known d) d.constructors h.0 h.1 x.at h.2
      (unbound_in_all known (bound_by known d) h.1.fields x (if_unbound d.params x.name.0 u)
      h.3)))

  pub unknown_first : IsFirstPlaceWhere Rule82
      (first_unknown_name (known_of (erased s)) s.types s.signatures)
  unknown_first =
      all_added Rule82
      (λ o. unknown_in_signatures known (unknown_in_types known o s.types) s.signatures)
      (then_adds (TypesUnknown known s.types) (SignaturesUnknown known s.signatures)
      (λ o. unknown_in_types known o s.types) (λ o. unknown_in_signatures known o s.signatures)
      (types_adds known s.types) (signatures_adds known s.signatures))
