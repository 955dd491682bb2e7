-- What is known of each valid program: names are in scope, and there are as many arguments as
-- parameters and fields.
use Rattle.std.specs.Prelude.{◌≡◌, ℕ, ◌<◌, ◌≤◌, ◌⊎◌, List, [], ◌∷◌, length, Some, None, slice_get}
use Rattle.arity_check.specs.declared.normal.Con as arity
use Rattle.arity_check.specs.declared.normal.Var.{Var}
use Rattle.arity_check.specs.declared.normal.Var.TheVariants as var
use Rattle.arity_check.specs.declared.normal.Bound.{Bound}
use Rattle.arity_check.specs.declared.normal.Flat.{Flat}
use Rattle.arity_check.specs.declared.normal.Flat.TheVariants as flat
use Rattle.arity_check.specs.Program.{Program, Function, Term, App, Let, Case, Branches, NoMore, OnCon, OnInt, OnAny}
use Rattle.arity_check.specs.Accepted.{IsValid}
use Rattle.core_meaning.specs.Evaluation.{nil, cons}
pub use Rattle.seq.specs.Lists.{AllOf}

-- x is one of some locals, or of those that a group binds
abbrev pub InLocals : List ℕ → ℕ → Type 0
InLocals [] x = ⊥
InLocals (y ∷ ys) x = (x ≡ y) ⊎ InLocals ys x

abbrev pub InGroup : List Bound → ℕ → Type 0
InGroup [] x = ⊥
InGroup (b ∷ group) x = (x ≡ b.local) ⊎ InGroup group x

module _ (p : Program) where
  -- the constructor c has k fields
  abbrev pub HasFields : ℕ → ℕ → Type 0
  HasFields c k = (con : arity.Con) × (slice_get p.cons c ≡ Some con) × (con.fields ≡ k)

  -- f is a function, and this holds of the number of its parameters
  abbrev pub HasParams : ℕ → (ℕ → Type 0) → Type 0
  HasParams f P = (fun : Function) × (slice_get p.funs f ≡ Some fun) × P fun.params

  module _ (S : ℕ → Type 0) where
    abbrev pub VarOk : Var → Type 0
    VarOk (var.Local x) = S x
    VarOk (var.Global f) = HasParams f (λ n. n ≡ 0)

    abbrev pub FormOk : Flat → Type 0
    FormOk (flat.Int k) = Unit {0}
    FormOk (flat.Con c xs) = HasFields c (length xs) × AllOf VarOk xs
    FormOk (flat.Part f xs) = HasParams f (λ n. length xs < n) × AllOf VarOk xs
    FormOk (flat.Call f xs) = HasParams f (λ n. n ≡ length xs) × AllOf VarOk xs
    FormOk (flat.Apply x xs) = (length xs < 13) × VarOk x × AllOf VarOk xs
    FormOk (flat.Prim op x y) = VarOk x × VarOk y

  abbrev mutual
    -- S are the locals in scope
    pub TermOk : (ℕ → Type 0) → Term → Type 0
    TermOk S (App f) = FormOk S f
    TermOk S (Let group e) =
        AllOf (λ b. FormOk (λ x. S x ⊎ InGroup group x) b.flat) group
        × TermOk (λ x. S x ⊎ InGroup group x) e
    TermOk S (Case e branches) = TermOk S e × BranchesOk S branches

    pub BranchesOk : (ℕ → Type 0) → Branches → Type 0
    BranchesOk S NoMore = Unit {0}
    BranchesOk S (OnCon c xs e rest) =
        HasFields c (length xs) × TermOk (λ x. S x ⊎ InLocals xs x) e × BranchesOk S rest
    BranchesOk S (OnInt k e rest) = TermOk S e × BranchesOk S rest
    BranchesOk S (OnAny None e rest) = TermOk S e × BranchesOk S rest
    BranchesOk S (OnAny (Some x) e rest) = TermOk (λ y. S y ⊎ (y ≡ x)) e × BranchesOk S rest

  abbrev pub FunOk : Function → Type 0
  FunOk f = TermOk (λ x. x < f.params) f.body

  pub record WellFormed : Type 0 where
    pub bodies : AllOf FunOk p.funs
    pub main : HasParams p.main (λ n. n ≤ 1)
    pub nil_fields : HasFields (nil p) 0
    pub cons_fields : HasFields (cons p) 2

abbrev pub ValidProgramsAreWellFormed : Type 0
ValidProgramsAreWellFormed = (p : Program) → IsValid p → WellFormed p
