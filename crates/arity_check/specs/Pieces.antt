-- The pieces of a function that may break a rule, each with the scope around it.
use Rattle.std.specs.Prelude.{◌≡◌, ℕ, List, [], ◌∷◌, map, Some, slice_get}
use Rattle.core_reader.specs.declared.syntax.Pattern.{Pattern}
use Rattle.core_reader.specs.declared.syntax.Pattern.TheVariants as pattern
use Rattle.core_reader.specs.declared.syntax.Binder.{Binder}
use Rattle.core_reader.specs.Tree.{Term, Application, Expr, App, Let, Case, Alts, Bind, AndAlt, Function, Program}
use Rattle.arity_check.specs.Scope.{Scope, binds_all}
use Rattle.arity_check.specs.Standing.{HeadIsApplied}

-- what may break a rule within a function
pub data FunctionPart : Type 0 where
  AnApp : (app : Application) → FunctionPart
  AGroup : (group : List Bind) → FunctionPart
  SomeAlts : (alts : Alts) → FunctionPart

abbrev pub names_of : List Binder → List ℕ
names_of xs = map (λ x. x.name.0) xs

abbrev pub binders_of : List Bind → List Binder
binders_of group = map (λ b. b.binder) group

abbrev pub bound_by : Pattern → List Binder
bound_by (pattern.Con c fields) = fields
bound_by (pattern.Int k at) = []
bound_by (pattern.Default x) = x ∷ []

module _ (p : Program) where
  -- these binders are in scope. Which number a local has is of no account here
  abbrev pub within : List Binder → Scope → Scope
  within xs s = binds_all p (names_of xs) (names_of xs) s

  mutual
    -- the piece stands in an expression, and t is the scope around it
    pub data Has : Scope → Expr → (t : Scope) → FunctionPart → Type 0 where
      TheApp : {s : Scope} {app : Application} → Has s (App app) s (AnApp app)
      TheGroup : {s : Scope} {group : List Bind} {body : Expr}
          → Has s (Let group body) s (AGroup group)
      InMember : {s : Scope} {group : List Bind} {body : Expr} {b : Bind} (i : ℕ)
          → slice_get group i ≡ Some b
          → Has s (Let group body) (within (binders_of group) s) (AnApp b.app)
      InBody : {s t : Scope} {group : List Bind} {body : Expr} {piece : FunctionPart}
          → Has (within (binders_of group) s) body t piece → Has s (Let group body) t piece
      TheAlts : {s : Scope} {tested : Expr} {alts : Alts}
          → Has s (Case tested alts) s (SomeAlts alts)
      InTested : {s t : Scope} {tested : Expr} {alts : Alts} {piece : FunctionPart}
          → Has s tested t piece → Has s (Case tested alts) t piece
      InAlts : {s t : Scope} {tested : Expr} {alts : Alts} {piece : FunctionPart}
          → HasAlts s alts t piece → Has s (Case tested alts) t piece

    pub data HasAlts : Scope → Alts → (t : Scope) → FunctionPart → Type 0 where
      InThis : {s t : Scope} {pat : Pattern} {body : Expr} {rest : Alts} {piece : FunctionPart}
          → Has (within (bound_by pat) s) body t piece → HasAlts s (AndAlt pat body rest) t piece
      InLater : {s t : Scope} {pat : Pattern} {body : Expr} {rest : Alts} {piece : FunctionPart}
          → HasAlts s rest t piece → HasAlts s (AndAlt pat body rest) t piece

  -- the piece stands in a function
  pub record InFunction (t : Scope) (piece : FunctionPart) : Type 0 where
    pub number : ℕ
    pub function : Function
    pub is : slice_get p.functions number ≡ Some function
    pub has : Has (within function.params []) function.body t piece

  -- the head h stands with k arguments in a function, in the scope t
  abbrev pub StandsApplied : Scope → Term → ℕ → Type 0
  StandsApplied t h k =
      (app : Application) × InFunction t (AnApp app) × HeadIsApplied app.head app.args h k
