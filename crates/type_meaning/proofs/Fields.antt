-- The type of a value tells the types of its fields, and what has a type has its instances.
use Rattle.std.proofs.Common.{◌≡◌, ℕ, zero, suc, Bool, true, false, nat_eq, List, [], ◌∷◌, map, Some, slice_get, refl, sym, ap, ◌∙◌, subst, eqb-true, inl, inr}
use Rattle.std.specs.Prelude.{◌⊎◌, codes, if◌then◌else◌}
use Rattle.std.proofs.lemmas.Bool.{eq-eqb}
use Rattle.seq.proofs.Lists.{some_is, none_is_some}
use Rattle.core_reader.specs.declared.syntax.Binder.{Binder}
use Rattle.core_reader.specs.Tree as tree
use Rattle.arity_check.specs.Program as normal
use Rattle.arity_check.specs.Normal.{Pairwise, IsConstructor}
use Rattle.core_types.specs.Source.{Written, WrittenTypes, NoTypes, AndType, Constructor, TypeDecl, Source, data_of, erased}
use Rattle.core_types.specs.Source as written
use Rattle.core_types.specs.Rules.{IsUnbroken, UnknownVariable, Has, HasIn, IsBound}
use Rattle.core_types.specs.Lists.{is_named}
use Rattle.core_types.specs.Typing.{Typed, Int, Named, Arrow, AndTyped, read, read_all, read_list, applied, all_of, constructor_by_name}
use Rattle.type_meaning.specs.Judgement.{Instance, instance, IsNamed}
use Rattle.type_meaning.specs.SourceTypes.{ConstructorHasType}
use Rattle.type_meaning.proofs.Readings.{instance_carries, carry_list, carry_applied}
use Rattle.type_meaning.proofs.Constructors.{declares, known}

-- ---- instances

pub con_named : (s : Source) (c : ℕ) (ts : List Typed) (t : Typed) → ConstructorHasType s c ts t
    → IsNamed t
con_named s c ts t h = subst IsNamed (sym h.result) tt

pub con_instances : (s : Source) (c : ℕ) (ts : List Typed) (t : Typed) (ρ : Instance)
    → ConstructorHasType s c ts t → ConstructorHasType s c (map (instance ρ) ts) (instance ρ t)
con_instances s c ts t ρ h = record {
  name = h.name;
  number = h.number;
  type = h.type;
  constructor = h.constructor;
  declared = h.declared;
  var = λ n. instance ρ (h.var n);
  fields = ap (map (instance ρ)) h.fields ∙ carry_list (instance ρ) _ (instance_carries ρ) s h.var
      h.constructor.fields;
  result = ap (instance ρ) h.result ∙ carry_applied (instance ρ) _ (instance_carries ρ) s h.var
      h.type;
}

-- ---- variables of a type

is_bound_or : (xs : List Binder) (n : ℕ) → IsBound xs n ⊎ (IsBound xs n → ⊥)
is_bound_or [] n = inr (λ h. none_is_some h.2)
is_bound_or (x ∷ xs) n = by_test (nat_eq x.name.0 n) refl (is_bound_or xs n)
  where
    by_test : (b : Bool) → nat_eq x.name.0 n ≡ b → IsBound xs n ⊎ (IsBound xs n → ⊥)
        → IsBound (x ∷ xs) n ⊎ (IsBound (x ∷ xs) n → ⊥)
    by_test true e h = inl (0, x, refl, eqb-true x.name.0 n e)
    by_test false e (inl h) = inl (suc h.0, h.1, h.2, h.3)
    by_test false e (inr h) = inr (λ k. go k.0 k.1 k.2 k.3)
      where
        go : (i : ℕ) (y : Binder) → slice_get (x ∷ xs) i ≡ Some y → y.name.0 ≡ n → ⊥
        go zero y at q =
            let same : x.name.0 ≡ n = ap (λ (x : Binder). x.name.0) (some_is at) ∙ q in
            let z : true ≡ false = sym (eq-eqb x.name.0 n same) ∙ e in absurd cc
        go (suc i) y at q = h (i, y, at, q)

mutual
  same_read : (s : Source) (var var' : ℕ → Typed) (w : Written)
      → ((x : Binder) → Has w (written.Var x) → var x.name.0 ≡ var' x.name.0)
      → read s var w ≡ read s var' w
  same_read s var var' (written.Var b) h = h b refl
  same_read s var var' (written.Named b args) h = ap
      (λ ts. if is_named s (codes "Int") b.name.0 then Int else Named b.name.0 ts)
      (same_read_all s var var' args (λ x i. h x (inr i)))
  same_read s var var' (written.Arrow from to) h = λ i. Arrow
      (same_read s var var' from (λ x i. h x (inr (inl i))) i)
      (same_read s var var' to (λ x i. h x (inr (inr i))) i)

  same_read_all : (s : Source) (var var' : ℕ → Typed) (ws : WrittenTypes)
      → ((x : Binder) → HasIn ws (written.Var x) → var x.name.0 ≡ var' x.name.0)
      → read_all s var ws ≡ read_all s var' ws
  same_read_all s var var' NoTypes h = refl
  same_read_all s var var' (AndType w ws) h = λ i. AndTyped
      (same_read s var var' w (λ x i. h x (inl i)) i)
      (same_read_all s var var' ws (λ x i. h x (inr i)) i)

same_list : (s : Source) (var var' : ℕ → Typed) (ws : WrittenTypes)
    → ((x : Binder) → HasIn ws (written.Var x) → var x.name.0 ≡ var' x.name.0)
    → read_list s var ws ≡ read_list s var' ws
same_list s var var' NoTypes h = refl
same_list s var var' (AndType w ws) h = λ i. same_read s var var' w (λ x i. h x (inl i)) i ∷
    same_list s var var' ws (λ x i. h x (inr i)) i

all_same : (s : Source) (ts us : List Typed) → all_of s ts ≡ all_of s us → ts ≡ us
all_same s [] [] e = refl
all_same s [] (u ∷ us) e = absurd cc
all_same s (t ∷ ts) [] e = absurd cc
all_same s (t ∷ ts) (u ∷ us) e =
    let head : t ≡ u = cc in
    let tail : all_of s ts ≡ all_of s us = cc in
    λ i. head i ∷ all_same s ts us tail i

var_same : (bs : List Binder) (var var' : ℕ → Typed)
    → map (λ (b : Binder). var b.name.0) bs ≡ map (λ (b : Binder). var' b.name.0) bs
    → (i : ℕ) (b : Binder) → slice_get bs i ≡ Some b → var b.name.0 ≡ var' b.name.0
var_same [] var var' e i b h = none_is_some h
var_same (c ∷ bs) var var' e zero b h =
    let head : var c.name.0 ≡ var' c.name.0 = cc in
    subst (λ (c : Binder). var c.name.0 ≡ var' c.name.0) (some_is h) head
var_same (c ∷ bs) var var' e (suc i) b h =
    let tail : map (λ (b : Binder). var b.name.0) bs ≡ map (λ (b : Binder). var' b.name.0) bs = cc
    in
    var_same bs var var' tail i b h

applied_args : (s : Source) (d : TypeDecl) (var var' : ℕ → Typed)
    → applied s d var ≡ applied s d var' → map (λ (b : Binder). var b.name.0) d.params ≡ map
    (λ (b : Binder). var' b.name.0) d.params
applied_args s d var var' e =
    let args : all_of s (map (λ (b : Binder). var b.name.0) d.params) ≡ all_of s
    (map (λ (b : Binder). var' b.name.0) d.params) = cc in
    all_same s _ _ args

module _ (s : Source) (p : normal.Program) (unbroken : IsUnbroken s)
    (paired : Pairwise (IsConstructor (erased s)) (erased s).constructors p.cons) where
  one_name : (c : ℕ) (ts us : List Typed) (t : Typed) (h : ConstructorHasType s c ts t)
      (k : ConstructorHasType s c us t) → k.name ≡ h.name
  one_name c ts us t h k =
      let a = known s p unbroken paired h.name c h.number in
      let b = known s p unbroken paired k.name c k.number in
      let same : data_of b.constructor ≡ data_of a.constructor = some_is (sym b.at ∙ a.at) in
      sym b.named ∙ ap (λ (d : tree.Data). d.name) same ∙ a.named

  fields_same : (d : TypeDecl) (c : Constructor) (i j : ℕ) (var var' : ℕ → Typed)
      → slice_get s.types i ≡ Some d → slice_get d.constructors j ≡ Some c
      → applied s d var ≡ applied s d var' → read_list s var c.fields ≡ read_list s var' c.fields
  fields_same d c i j var var' at in_type e = same_list s var var' c.fields
      (λ x h. by_bound x h (is_bound_or d.params x.name.0))
    where
      by_bound : (x : Binder) → HasIn c.fields (written.Var x) → IsBound d.params x.name.0
          ⊎ (IsBound d.params x.name.0 → ⊥) → var x.name.0 ≡ var' x.name.0
      by_bound x h (inl b) = subst (λ n. var n ≡ var' n) b.3
          (var_same d.params var var' (applied_args s d var var' e) b.0 b.1 b.2)
      by_bound x h (inr b) = absurd (unbroken 82 x.at (UnknownVariable i at (j, c, in_type, h) b))

  pub con_fields : (c : ℕ) (ts us : List Typed) (t : Typed) → ConstructorHasType s c ts t
      → ConstructorHasType s c us t → ts ≡ us
  con_fields c ts us t h k =
      let names = one_name c ts us t h k in
      let both : (k.type, k.constructor) ≡ (h.type, h.constructor)
      = some_is (sym k.declared ∙ ap (constructor_by_name s.types) names ∙ h.declared) in
      let type : k.type ≡ h.type = ap (λ (x : TypeDecl × Constructor). x.0) both in
      let con : k.constructor ≡ h.constructor = ap (λ (x : TypeDecl × Constructor). x.1) both in
      let w = declares s.types h.name h.type h.constructor h.declared in
      let result : applied s h.type h.var ≡ applied s h.type k.var
      = sym h.result ∙ k.result ∙ ap (λ d. applied s d k.var) type in
      h.fields ∙ fields_same h.type h.constructor w.type_place w.con_place h.var k.var w.type_at
      w.con_at result ∙ ap (λ (c : Constructor). read_list s k.var c.fields) (sym con) ∙ sym
      k.fields
