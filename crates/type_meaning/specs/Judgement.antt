-- When a program in normal form is well typed. What types constructors and functions have is left
-- open: two relations, which say for a number that from these types it gives that one.
use Rattle.std.specs.Prelude.{◌≡◌, ℕ, ◌⊎◌, ◌==◌, List, [], ◌∷◌, ◌++◌, map, length, Option, Some, None, if◌then◌else◌, slice_get}
use Rattle.arity_check.specs.declared.normal.Var.{Var}
use Rattle.arity_check.specs.declared.normal.Var.TheVariants as var
use Rattle.arity_check.specs.declared.normal.Bound.{Bound}
use Rattle.arity_check.specs.declared.normal.Flat.{Flat}
use Rattle.arity_check.specs.declared.normal.Flat.TheVariants as flat
use Rattle.arity_check.specs.Program.{Program, Function, Term, App, Let, Case, Branches, NoMore, OnCon, OnInt, OnAny}
use Rattle.core_types.specs.Typing.{Typed, Int, Open, Rigid, Named, Arrow, Types, NoTypeds, AndTyped, arrows}
use Rattle.core_meaning.specs.ByNeed.{nil, cons}

-- ---- instances

-- what the variables of signatures stand for
abbrev pub Instance : Type 0
Instance = ℕ → ℕ → Typed

abbrev mutual
  pub instance : Instance → Typed → Typed
  instance ρ Int = Int
  instance ρ (Open k) = Open k
  instance ρ (Rigid f n) = ρ f n
  instance ρ (Named n args) = Named n (instances ρ args)
  instance ρ (Arrow from to) = Arrow (instance ρ from) (instance ρ to)

  pub instances : Instance → Types → Types
  instances ρ NoTypeds = NoTypeds
  instances ρ (AndTyped t ts) = AndTyped (instance ρ t) (instances ρ ts)

abbrev pub IsNamed : Typed → Type 0
IsNamed Int = ⊥
IsNamed (Open k) = ⊥
IsNamed (Rigid f n) = ⊥
IsNamed (Named n args) = Unit {0}
IsNamed (Arrow from to) = ⊥

-- ---- locals

-- the types of the locals in scope
abbrev pub Context : Type 0
Context = ℕ → Option Typed

abbrev pub with_type : Context → ℕ → Typed → Context
with_type Γ x t y = if y == x then Some t else Γ y

abbrev pub with_types : Context → List ℕ → List Typed → Context
with_types Γ [] ts = Γ
with_types Γ (x ∷ xs) [] = Γ
with_types Γ (x ∷ xs) (t ∷ ts) = with_types (with_type Γ x t) xs ts

-- the locals of a group
abbrev pub group_types : Context → List Bound → List Typed → Context
group_types Γ [] ts = Γ
group_types Γ (b ∷ group) [] = Γ
group_types Γ (b ∷ group) (t ∷ ts) = group_types (with_type Γ b.local t) group ts

-- ---- values that a case takes

abbrev pub HasDefault : Branches → Type 0
HasDefault NoMore = ⊥
HasDefault (OnCon c xs e rest) = HasDefault rest
HasDefault (OnInt k e rest) = HasDefault rest
HasDefault (OnAny x e rest) = Unit {0}

abbrev pub HasBranch : ℕ → Branches → Type 0
HasBranch c NoMore = ⊥
HasBranch c (OnCon d xs e rest) = (c ≡ d) ⊎ HasBranch c rest
HasBranch c (OnInt k e rest) = HasBranch c rest
HasBranch c (OnAny x e rest) = Unit {0}

module _ (ConHas FunHas : ℕ → List Typed → Typed → Type 0) where
  -- branches that take each value of this type
  abbrev pub TakesAll : Typed → Branches → Type 0
  TakesAll u branches = HasDefault branches
      ⊎ (IsNamed u × ((c : ℕ) (ts : List Typed) → ConHas c ts u → HasBranch c branches))

  module _ (Γ : Context) where
    abbrev pub VarHas : Var → Typed → Type 0
    VarHas (var.Local x) t = Γ x ≡ Some t
    VarHas (var.Global f) t = FunHas f [] t

    abbrev pub VarsHave : List Var → List Typed → Type 0
    VarsHave [] [] = Unit {0}
    VarsHave [] (t ∷ ts) = ⊥
    VarsHave (x ∷ xs) [] = ⊥
    VarsHave (x ∷ xs) (t ∷ ts) = VarHas x t × VarsHave xs ts

    abbrev pub FormHas : Flat → Typed → Type 0
    FormHas (flat.Int k) t = t ≡ Int
    FormHas (flat.Con c xs) t = (ts : List Typed) × ConHas c ts t × VarsHave xs ts
    FormHas (flat.Part f xs) t =
        (ts : List Typed) × (u : Typed) × (us : List Typed) × (r : Typed)
        × FunHas f (ts ++ u ∷ us) r × (t ≡ arrows (u ∷ us) r) × VarsHave xs ts
    FormHas (flat.Call f xs) t = (ts : List Typed) × FunHas f ts t × VarsHave xs ts
    FormHas (flat.Apply x xs) t = (ts : List Typed) × VarHas x (arrows ts t) × VarsHave xs ts
    FormHas (flat.Prim op x y) t = (t ≡ Int) × VarHas x Int × VarHas y Int

    abbrev pub GroupHas : List Bound → List Typed → Type 0
    GroupHas [] [] = Unit {0}
    GroupHas [] (t ∷ ts) = ⊥
    GroupHas (b ∷ group) [] = ⊥
    GroupHas (b ∷ group) (t ∷ ts) = FormHas b.flat t × GroupHas group ts

  abbrev mutual
    pub TermHas : Context → Term → Typed → Type 0
    TermHas Γ (App f) t = FormHas Γ f t
    TermHas Γ (Let group e) t =
        (ts : List Typed) × GroupHas (group_types Γ group ts) group ts
        × TermHas (group_types Γ group ts) e t
    TermHas Γ (Case e branches) t =
        (u : Typed) × TermHas Γ e u × TakesAll u branches × BranchesHave Γ u branches t

    -- branches for a value of a type u, each of type t
    pub BranchesHave : Context → Typed → Branches → Typed → Type 0
    BranchesHave Γ u NoMore t = Unit {0}
    BranchesHave Γ u (OnCon c xs e rest) t =
        (ts : List Typed) × ConHas c ts u × TermHas (with_types Γ xs ts) e t
        × BranchesHave Γ u rest t
    BranchesHave Γ u (OnInt k e rest) t = TermHas Γ e t × BranchesHave Γ u rest t
    BranchesHave Γ u (OnAny None e rest) t = TermHas Γ e t × BranchesHave Γ u rest t
    BranchesHave Γ u (OnAny (Some x) e rest) t =
        TermHas (with_type Γ x u) e t × BranchesHave Γ u rest t

  -- a function that has a type, by its number
  pub record IsTypedFunction (p : Program) (f : ℕ) (ts : List Typed) (t : Typed) : Type 0 where
    pub function : Function
    pub is : slice_get p.funs f ≡ Some function
    pub params : length ts ≡ function.params
    pub body : TermHas (slice_get ts) function.body t

  -- a well typed program, where this is the type of the list of integers
  pub record IsTyped (p : Program) (integers : Typed) : Type 0 where
    pub bodies : (f : ℕ) (ts : List Typed) (t : Typed) → FunHas f ts t → IsTypedFunction p f ts t
    -- what has a type has its instances, and a function without parameters has a most general type
    pub con_instances : (c : ℕ) (ts : List Typed) (t : Typed) (ρ : Instance) → ConHas c ts t
        → ConHas c (map (instance ρ) ts) (instance ρ t)
    pub fun_instances : (f : ℕ) (ts : List Typed) (t : Typed) (ρ : Instance) → FunHas f ts t
        → FunHas f (map (instance ρ) ts) (instance ρ t)
    pub general : (f : ℕ) (function : Function) → slice_get p.funs f ≡ Some function
        → function.params ≡ 0 → (g : Typed) × FunHas f [] g
        × ((t : Typed) → FunHas f [] t → (ρ : Instance) × (t ≡ instance ρ g))
    -- the type of a value tells those of its fields
    pub con_named : (c : ℕ) (ts : List Typed) (t : Typed) → ConHas c ts t → IsNamed t
    pub con_fields : (c : ℕ) (ts us : List Typed) (t : Typed) → ConHas c ts t → ConHas c us t
        → ts ≡ us
    -- lists of integers
    pub nil_has : ConHas (nil p) [] integers
    pub cons_has : ConHas (cons p) (Int ∷ integers ∷ []) integers
    pub list_has : (c : ℕ) (ts : List Typed) → ConHas c ts integers → (c ≡ nil p) ⊎ (c ≡ cons p)
    pub main_has : FunHas p.main [] integers ⊎ FunHas p.main (integers ∷ []) integers
