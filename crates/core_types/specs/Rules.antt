-- The rules that a program with types has to keep, each by what breaks it and where, and the order
-- in which they are named.
use Rattle.std.specs.Prelude.{◌≡◌, ◌≢◌, ℕ, ◌<◌, ◌⊎◌, ◌==◌, ◌||◌, Bool, true, false, ℤ, nat_le, List, [], ◌∷◌, length, Option, Some, None, slice_get, codes, if◌then◌else◌}
use Rattle.core_reader.specs.declared.syntax.Binder.{Binder}
use Rattle.core_reader.specs.declared.syntax.Pattern.{Pattern}
use Rattle.core_reader.specs.declared.syntax.Pattern.TheVariants as pattern
use Rattle.core_reader.specs.Tree.{Function, Expr, App, Let, Case, Alts, NoAlts, AndAlt}
use Rattle.arity_check.specs.Patterns.{alt_at, pattern_place}
use Rattle.arity_check.specs.Broken as core
use Rattle.arity_check.specs.Order as core-order
use Rattle.arity_check.specs.Order.{IsBefore}
use Rattle.core_types.specs.Lists.{is_named, is_list}
use Rattle.core_types.specs.Typing.{Constraint, constraints, IsFirstUnsolved}
use Rattle.core_types.specs.Source.{Written, WrittenTypes, Var, Named, Arrow, NoTypes, AndType, Constructor, TypeDecl, Signature, Source, count, erased}

-- ---- what stands in types and in expressions

abbrev mutual
  -- a type stands in another one
  pub Has : Written → Written → Type 0
  Has (Var b) u = u ≡ Var b
  Has (Named b args) u = (u ≡ Named b args) ⊎ HasIn args u
  Has (Arrow from to) u = (u ≡ Arrow from to) ⊎ (Has from u ⊎ Has to u)

  pub HasIn : WrittenTypes → Written → Type 0
  HasIn NoTypes u = ⊥
  HasIn (AndType t ts) u = Has t u ⊎ HasIn ts u

abbrev mutual
  -- the alternatives of a case in an expression
  pub HasCase : Expr → Alts → Type 0
  HasCase (App app) alts = ⊥
  HasCase (Let group body) alts = HasCase body alts
  HasCase (Case tested these) alts = (alts ≡ these) ⊎ (HasCase tested alts ⊎ HasCaseIn these alts)

  pub HasCaseIn : Alts → Alts → Type 0
  HasCaseIn NoAlts alts = ⊥
  HasCaseIn (AndAlt pat body rest) alts = HasCase body alts ⊎ HasCaseIn rest alts

-- ---- types and their constructors by name

abbrev pub IsBound : List Binder → ℕ → Type 0
IsBound xs n = (i : ℕ) × (x : Binder) × (slice_get xs i ≡ Some x) × (x.name.0 ≡ n)

-- the first type of this name has so many parameters
abbrev pub type_arity : List TypeDecl → ℕ → Option ℕ
type_arity [] n = None
type_arity (d ∷ ds) n = if d.name.name.0 == n then Some (length d.params) else type_arity ds n

abbrev pub names_constructor : ℕ → List Constructor → Bool
names_constructor n [] = false
names_constructor n (c ∷ cs) = (c.name.name.0 == n) || names_constructor n cs

-- the first type that has a constructor of this name
abbrev pub type_with : List TypeDecl → ℕ → Option TypeDecl
type_with [] n = None
type_with (d ∷ ds) n = if names_constructor n d.constructors then Some d else type_with ds n

module _ (s : Source) where
  -- the number of parameters of a type
  abbrev pub parameters : ℕ → Option ℕ
  parameters n = if is_named s (codes "Int") n then Some 0 else type_arity s.types n

  -- a type stands in a field of a constructor of this type
  abbrev pub InFields : TypeDecl → Written → Type 0
  InFields d u =
      (j : ℕ) × (c : Constructor) × (slice_get d.constructors j ≡ Some c) × HasIn c.fields u

  -- a type stands in a declaration
  pub data Stands (u : Written) : Type 0 where
    InType : {d : TypeDecl} (i : ℕ) → slice_get s.types i ≡ Some d → InFields d u → Stands u
    InArgument : {g : Signature} (i : ℕ) → slice_get s.signatures i ≡ Some g → HasIn g.args u
        → Stands u
    InResult : {g : Signature} (i : ℕ) → slice_get s.signatures i ≡ Some g → Has g.result u
        → Stands u

  -- A case without default whose first pattern this is does not take every value: an integer
  -- stands in it, or a constructor of its type does not.
  pub data IsPartial (alts : Alts) : Pattern → Type 0 where
    OfIntegers : {p : Pattern} {k : ℤ} {at : ℕ} (i : ℕ) → alt_at alts i ≡ Some (pattern.Int k at)
        → IsPartial alts p
    Lacks : {b : Binder} {xs : List Binder} {d : TypeDecl} {c : Constructor} (i : ℕ)
        → type_with s.types b.name.0 ≡ Some d → slice_get d.constructors i ≡ Some c
        → ((j : ℕ) (b' : Binder) (ys : List Binder) → alt_at alts j ≡ Some (pattern.Con b' ys)
        → b'.name.0 ≢ c.name.name.0) → IsPartial alts (pattern.Con b xs)

  -- rule k is broken at a place
  pub data Broken : (k at : ℕ) → Type 0 where
    InCore : {k at : ℕ} → core.Broken (erased s) k at → Broken k at
    DuplicateType : {i j : ℕ} {d e : TypeDecl} → i < j → slice_get s.types i ≡ Some d
        → slice_get s.types j ≡ Some e → e.name.name.0 ≡ d.name.name.0 → Broken 81 e.name.at
    DuplicateParameter : {i j : ℕ} {d : TypeDecl} {x y : Binder} (n : ℕ)
        → slice_get s.types n ≡ Some d → i < j → slice_get d.params i ≡ Some x
        → slice_get d.params j ≡ Some y → y.name.0 ≡ x.name.0 → Broken 81 y.at
    ReservedType : {d : TypeDecl} (i : ℕ) → slice_get s.types i ≡ Some d
        → is_named s (codes "Int") d.name.name.0 ≡ true → Broken 81 d.name.at
    UnknownType : {b : Binder} {args : WrittenTypes} → Stands (Named b args)
        → parameters b.name.0 ≢ Some (count args) → Broken 82 b.at
    UnknownVariable : {d : TypeDecl} {x : Binder} (i : ℕ) → slice_get s.types i ≡ Some d
        → InFields d (Var x) → (IsBound d.params x.name.0 → ⊥) → Broken 82 x.at
    SignedAgain : {i j : ℕ} {g h : Signature} → i < j → slice_get s.signatures i ≡ Some g
        → slice_get s.signatures j ≡ Some h → h.function.name.0 ≡ g.function.name.0
        → Broken 85 h.function.at
    SignedUnknown : {g : Signature} (i : ℕ) → slice_get s.signatures i ≡ Some g
        → ((j : ℕ) (f : Function) → slice_get s.functions j ≡ Some f
        → f.name ≢ g.function.name.0) → Broken 85 g.function.at
    ListType : ((i : ℕ) (d : TypeDecl) → slice_get s.types i ≡ Some d → is_list s d ≡ false)
        → Broken 86 0
    NotExhaustive : {f : Function} {alts : Alts} {p : Pattern} (i : ℕ)
        → slice_get s.functions i ≡ Some f → HasCase f.body alts → alt_at alts 0 ≡ Some p
        → ((j : ℕ) (x : Binder) → alt_at alts j ≢ Some (pattern.Default x))
        → IsPartial alts p → Broken 84 (pattern_place p)
    Mismatch : {c : Constraint} (i : ℕ) → IsFirstUnsolved (constraints s) i c → Broken 83 c.at

-- the rules of the program without its types in their order; then 81, 82 and 85 by place; then 86;
-- then 83, that types don't fit; and last 84 by place
abbrev pub rank : ℕ → ℕ → ℕ × ℕ × ℕ
rank k at =
    if k == 84 then (6, at, k)
    else if k == 83 then (5, at, k)
    else if k == 86 then (4, at, k)
    else if nat_le 81 k then (3, at, k)
    else core-order.rank k at

-- Rule k is broken at a place, and no broken rule comes before it.
pub record IsFirstBroken (s : Source) (k at : ℕ) : Type 0 where
  pub broken : Broken s k at
  pub first : (k' at' : ℕ) → Broken s k' at' → IsBefore (rank k at) (rank k' at')

-- No rule is broken.
abbrev pub IsUnbroken : Source → Type 0
IsUnbroken s = (k at : ℕ) → Broken s k at → ⊥
