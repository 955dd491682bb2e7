-- The types of a program, as constraints between types in which variables are named by places.
use Rattle.std.specs.Prelude.{◌≡◌, ℕ, suc, ◌==◌, Bool, List, [], ◌∷◌, ◌++◌, map, Option, Some, None, take, slice_get, codes, if◌then◌else◌}
use Rattle.std.specs.List.{flat_map, find}
use Rattle.core_reader.specs.declared.syntax.Binder.{Binder}
use Rattle.core_reader.specs.declared.syntax.Pattern.{Pattern}
use Rattle.core_reader.specs.declared.syntax.Pattern.TheVariants as pattern
use Rattle.core_reader.specs.Tree.{Term, Terms, Name, Con, Bracket, NoTerms, AndTerm, Application, Expr, App, Let, Case, Alts, NoAlts, AndAlt, Bind, Function}
use Rattle.core_reader.specs.Tree as tree
use Rattle.arity_check.specs.Scope as scope
use Rattle.arity_check.specs.declared.meaning.Meaning.{Meaning}
use Rattle.arity_check.specs.declared.meaning.Meaning.TheVariants.{Primitive}
use Rattle.core_types.specs.Source.{Written, WrittenTypes, NoTypes, AndType, Constructor, TypeDecl, Signature, Source, erased}
use Rattle.core_types.specs.Source as written
use Rattle.core_types.specs.Lists.{is_named, is_list}

-- A variable, by the place at which it comes in: a binder, the result of a function, a bracket with
-- arguments, the first pattern of a case, or a variable of what is used at a place.
pub data TypeVariableKey : Type 0 where
  AtBinder : (at : ℕ) → TypeVariableKey
  AtResult : (at : ℕ) → TypeVariableKey
  AtBracket : (at : ℕ) → TypeVariableKey
  AtScrutinee : (at : ℕ) → TypeVariableKey
  AtUse : (at variable : ℕ) → TypeVariableKey

mutual
  -- Integers, a variable, a variable of the signature of a function where its body is checked, a
  -- type by its name with its arguments, or functions.
  pub data Typed : Type 0 where
    Int : Typed
    Open : TypeVariableKey → Typed
    Rigid : (function variable : ℕ) → Typed
    Named : (name : ℕ) (args : Types) → Typed
    Arrow : (from to : Typed) → Typed

  pub data Types : Type 0 where
    NoTypeds : Types
    AndTyped : Typed → Types → Types

pub record Constraint : Type 0 where
  pub at : ℕ
  pub left : Typed
  pub right : Typed

-- from these types to the last one
abbrev pub arrows : List Typed → Typed → Typed
arrows [] t = t
arrows (u ∷ us) t = Arrow u (arrows us t)

abbrev pub binder_type_variable : Binder → Typed
binder_type_variable b = Open (AtBinder b.at)

-- the types of locals by name, the innermost first
abbrev pub Locals : Type 0
Locals = List (ℕ × Typed)

abbrev pub local_in : Locals → ℕ → Option Typed
local_in [] n = None
local_in (l ∷ ls) n = if l.0 == n then Some l.1 else local_in ls n

abbrev pub constructor_in : List Constructor → ℕ → Option Constructor
constructor_in [] n = None
constructor_in (c ∷ cs) n = if c.name.name.0 == n then Some c else constructor_in cs n

-- what a name says of a constructor: its type and the constructor itself
abbrev pub constructor_by_name : List TypeDecl → ℕ → Option (TypeDecl × Constructor)
constructor_by_name [] n = None
constructor_by_name (d ∷ ds) n =
    elim (constructor_in d.constructors n) [
      | Some c ↦ Some (d, c)
      | None ↦ constructor_by_name ds n
    ]

abbrev pub signature_of : List Signature → ℕ → Option Signature
signature_of [] n = None
signature_of (g ∷ gs) n = if g.function.name.0 == n then Some g else signature_of gs n

abbrev pub function_of : List Function → ℕ → Option Function
function_of [] n = None
function_of (f ∷ fs) n = if f.name == n then Some f else function_of fs n

-- a primitive takes two integers and gives one, whatever else has its name
abbrev pub unless_primitive : Meaning → Typed → Typed
unless_primitive (Primitive op) t = Arrow Int (Arrow Int Int)
unless_primitive m t = t

module _ (s : Source) where
  abbrev mutual
    -- the type that is written, where variables stand for these
    pub read : (ℕ → Typed) → Written → Typed
    read var (written.Var b) = var b.name.0
    read var (written.Named b args) =
        if is_named s (codes "Int") b.name.0 then Int else Named b.name.0 (read_all var args)
    read var (written.Arrow from to) = Arrow (read var from) (read var to)

    pub read_all : (ℕ → Typed) → WrittenTypes → Types
    read_all var NoTypes = NoTypeds
    read_all var (AndType t ts) = AndTyped (read var t) (read_all var ts)

  abbrev pub read_list : (ℕ → Typed) → WrittenTypes → List Typed
  read_list var NoTypes = []
  read_list var (AndType t ts) = read var t ∷ read_list var ts

  abbrev pub used_at : ℕ → ℕ → Typed
  used_at at n = Open (AtUse at n)

  abbrev pub signed : (ℕ → Typed) → Signature → Typed
  signed var g = arrows (read_list var g.args) (read var g.result)

  abbrev pub all_of : List Typed → Types
  all_of [] = NoTypeds
  all_of (t ∷ ts) = AndTyped t (all_of ts)

  -- a type with these variables as its parameters
  abbrev pub applied : TypeDecl → (ℕ → Typed) → Typed
  applied d var = Named d.name.name.0 (all_of (map (λ (b : Binder). var b.name.0) d.params))

  -- the list of integers
  abbrev pub integers : Typed
  integers =
      elim (find (is_list s) s.types) [
        | Some d ↦ Named d.name.name.0 (AndTyped Int NoTypeds)
        | None ↦ Int
      ]

  abbrev pub is_main : Function → Bool
  is_main f = is_named s (codes "main") f.name

  abbrev pub param_type : Function → Binder → Typed
  param_type f b = if is_main f then integers else binder_type_variable b

  abbrev pub result_type : Function → Typed
  result_type f = if is_main f then integers else Open (AtResult f.at)

  -- from the types of the parameters to that of the body
  abbrev pub own_type : Function → Typed
  own_type f = arrows (map (param_type f) f.params) (result_type f)

  -- a function that is used at a place
  abbrev pub function_type : Function → ℕ → Typed
  function_type f at =
      elim (signature_of s.signatures f.name) [
        | Some g ↦ signed (used_at at) g
        | None ↦ own_type f
      ]

  -- a name that no local hides
  abbrev pub global_type : ℕ → ℕ → Typed
  global_type n at =
      elim (function_of s.functions n) [ Some f ↦ function_type f at | None ↦ Int ]

  abbrev pub name_type : Locals → ℕ → ℕ → Typed
  name_type ls n at =
      unless_primitive (scope.primitive_from (erased s) scope.primitives n)
      (elim (local_in ls n) [ Some t ↦ t | None ↦ global_type n at ])

  abbrev pub constructor_type : ℕ → ℕ → Typed
  constructor_type n at =
      elim (constructor_by_name s.types n) [
        | Some x ↦ arrows (read_list (used_at at) x.1.fields) (applied x.0 (used_at at))
        | None ↦ Int
      ]

  -- The type of a head or an argument. A bracket without arguments is what stands in it.
  abbrev pub term_type : Locals → Term → Typed
  term_type ls (Name n at) = name_type ls n at
  term_type ls (Con n at) = constructor_type n at
  term_type ls (tree.Int k at) = Int
  term_type ls (Bracket head NoTerms at) = term_type ls head
  term_type ls (Bracket head (AndTerm a args) at) = Open (AtBracket at)

  abbrev pub terms_types : Locals → Terms → List Typed
  terms_types ls NoTerms = []
  terms_types ls (AndTerm a rest) = term_type ls a ∷ terms_types ls rest

  -- the place of a head, without brackets that have no arguments
  abbrev pub head_place : Term → ℕ
  head_place (Name n at) = at
  head_place (Con n at) = at
  head_place (tree.Int k at) = at
  head_place (Bracket head NoTerms at) = head_place head
  head_place (Bracket head (AndTerm a args) at) = at

  abbrev pub constraint : ℕ → Typed → Typed → Constraint
  constraint at left right = record { at = at; left = left; right = right }

  abbrev mutual
    -- of the brackets with arguments in a term
    pub within_term : Locals → Term → List Constraint
    within_term ls (Name n at) = []
    within_term ls (Con n at) = []
    within_term ls (tree.Int k at) = []
    within_term ls (Bracket head NoTerms at) = within_term ls head
    within_term ls (Bracket head (AndTerm a args) at) =
        constraint (head_place head) (term_type ls head)
        (arrows (term_type ls a ∷ terms_types ls args) (Open (AtBracket at)))
        ∷ (within_term ls head ++ (within_term ls a ++ within_terms ls args))

    pub within_terms : Locals → Terms → List Constraint
    within_terms ls NoTerms = []
    within_terms ls (AndTerm a rest) = within_term ls a ++ within_terms ls rest

  -- of an application with an expected type. Without arguments a bracket is what stands in it.
  abbrev pub of_terms : Locals → Typed → Term → Terms → List Constraint
  of_terms ls t (Bracket head args at) NoTerms = of_terms ls t head args
  of_terms ls t head args =
      constraint (head_place head) (term_type ls head) (arrows (terms_types ls args) t)
      ∷ (within_term ls head ++ within_terms ls args)

  abbrev pub of_app : Locals → Typed → Application → List Constraint
  of_app ls t app = of_terms ls t app.head app.args

  -- a binder's name has a type from here on, but `_` has none
  abbrev pub binds : Binder → Typed → Locals → Locals
  binds b t ls = if is_named s (codes "_") b.name.0 then ls else (b.name.0, t) ∷ ls

  abbrev pub binds_all : List Binder → List Typed → Locals → Locals
  binds_all [] ts ls = ls
  binds_all (b ∷ bs) [] ls = ls
  binds_all (b ∷ bs) (t ∷ ts) ls = binds_all bs ts (binds b t ls)

  abbrev pub with_group : List Bind → Locals → Locals
  with_group [] ls = ls
  with_group (b ∷ bs) ls = with_group bs (binds b.binder (binder_type_variable b.binder) ls)

  abbrev pub of_group : Locals → List Bind → List Constraint
  of_group ls [] = []
  of_group ls (b ∷ bs) = of_app ls (binder_type_variable b.binder) b.app ++ of_group ls bs

  abbrev pub scrutinee : Alts → Typed
  scrutinee NoAlts = Int
  scrutinee (AndAlt (pattern.Con c xs) body rest) = Open (AtScrutinee c.at)
  scrutinee (AndAlt (pattern.Int k at) body rest) = Open (AtScrutinee at)
  scrutinee (AndAlt (pattern.Default x) body rest) = Open (AtScrutinee x.at)

  -- of a pattern of a value of this type
  abbrev pub of_pattern : Typed → Pattern → List Constraint
  of_pattern t (pattern.Con c xs) =
      elim (constructor_by_name s.types c.name.0) [
        | Some x ↦ constraint c.at t (applied x.0 (used_at c.at)) ∷ []
        | None ↦ []
      ]
  of_pattern t (pattern.Int k at) = constraint at t Int ∷ []
  of_pattern t (pattern.Default x) = []

  abbrev pub with_pattern : Typed → Pattern → Locals → Locals
  with_pattern t (pattern.Con c xs) ls =
      elim (constructor_by_name s.types c.name.0) [
        | Some x ↦ binds_all xs (read_list (used_at c.at) x.1.fields) ls
        | None ↦ ls
      ]
  with_pattern t (pattern.Int k at) ls = ls
  with_pattern t (pattern.Default x) ls = binds x t ls

  abbrev mutual
    pub of_expr : Locals → Typed → Expr → List Constraint
    of_expr ls t (App app) = of_app ls t app
    of_expr ls t (Let group body) =
        of_group (with_group group ls) group ++ of_expr (with_group group ls) t body
    of_expr ls t (Case tested alts) =
        of_expr ls (scrutinee alts) tested ++ of_alts ls (scrutinee alts) t alts

    -- the alternatives for a value of one type, each of another
    pub of_alts : Locals → Typed → Typed → Alts → List Constraint
    of_alts ls u t NoAlts = []
    of_alts ls u t (AndAlt pat body rest) =
        of_pattern u pat ++ (of_expr (with_pattern u pat ls) t body ++ of_alts ls u t rest)

  -- A function with a signature keeps it, for whatever its variables stand.
  abbrev pub of_signature : Function → List Constraint
  of_signature f =
      elim (signature_of s.signatures f.name) [
        | Some g ↦ constraint f.at (signed (λ n. Rigid f.name n) g) (own_type f) ∷ []
        | None ↦ []
      ]

  abbrev pub of_function : Function → List Constraint
  of_function f =
      of_signature f
      ++ of_expr (binds_all f.params (map (param_type f) f.params) []) (result_type f) f.body

  -- the constraints of a program, by place
  abbrev pub constraints : List Constraint
  constraints = flat_map of_function s.functions

-- ---- solutions

-- what variables stand for
abbrev pub Substitution : Type 0
Substitution = TypeVariableKey → Typed

abbrev mutual
  pub under : Substitution → Typed → Typed
  under σ Int = Int
  under σ (Open k) = σ k
  under σ (Rigid f n) = Rigid f n
  under σ (Named n args) = Named n (under_all σ args)
  under σ (Arrow from to) = Arrow (under σ from) (under σ to)

  pub under_all : Substitution → Types → Types
  under_all σ NoTypeds = NoTypeds
  under_all σ (AndTyped t ts) = AndTyped (under σ t) (under_all σ ts)

abbrev pub Solves : Substitution → List Constraint → Type 0
Solves σ [] = Unit {0}
Solves σ (c ∷ cs) = (under σ c.left ≡ under σ c.right) × Solves σ cs

-- Each other solution is had from this one.
pub record IsMostGeneral (σ : Substitution) (cs : List Constraint) : Type 0 where
  pub solves : Solves σ cs
  pub general : (τ : Substitution) → Solves τ cs
      → (ρ : Substitution) × ((k : TypeVariableKey) → τ k ≡ under ρ (σ k))

-- The constraint of this number is the first that has no solution with those before it.
pub record IsFirstUnsolved (cs : List Constraint) (i : ℕ) (c : Constraint) : Type 0 where
  pub is : slice_get cs i ≡ Some c
  pub before : Substitution
  pub solves : Solves before (take i cs)
  pub none : (τ : Substitution) → Solves τ (take (suc i) cs) → ⊥
