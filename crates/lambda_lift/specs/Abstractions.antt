-- The lambdas and local functions of a text, in the order of their `\` or name, each with the scope
-- around it. That of a local function has the binders of its group.
use Rattle.std.specs.Prelude.{ℕ, List, [], ◌∷◌, ◌++◌, length}
use Rattle.core_reader.specs.declared.syntax.Binder.{Binder}
use Rattle.lambda_reader.specs.Tree.{Term, Terms, NoTerms, AndTerm, Group, NoBinds, AndValue, AndFunction, Expr, App, Let, Case, Alts, NoAlts, AndAlt, Function, Program}
use Rattle.lambda_reader.specs.Tree as tree
use Rattle.arity_check.specs.Scope.{Scope}
use Rattle.lambda_lift.specs.Headers.{bound_by, binders_of, within}

pub record Abstraction : Type 0 where
  pub scope : Scope
  pub params : List Binder
  pub body : Expr
  pub at : ℕ

module _ (c : Program) where
  abbrev mutual
    pub in_term : Scope → Term → List Abstraction
    in_term s (tree.Name x at) = []
    in_term s (tree.Con d at) = []
    in_term s (tree.Int k at) = []
    in_term s (tree.Bracket head args at) = in_term s head ++ in_terms s args
    in_term s (tree.Lambda params body at) =
        record { scope = s; params = params; body = body; at = at }
        ∷ in_expr (within c params s) body

    pub in_terms : Scope → Terms → List Abstraction
    in_terms s NoTerms = []
    in_terms s (AndTerm a xs) = in_term s a ++ in_terms s xs

    -- the scope is that in the group
    pub in_group : Scope → Group → List Abstraction
    in_group s NoBinds = []
    in_group s (AndValue b head args rest) = in_term s head ++ (in_terms s args ++ in_group s rest)
    in_group s (AndFunction b params body rest) =
        record { scope = s; params = params; body = body; at = b.at }
        ∷ (in_expr (within c params s) body ++ in_group s rest)

    pub in_expr : Scope → Expr → List Abstraction
    in_expr s (App head args) = in_term s head ++ in_terms s args
    in_expr s (Let group body) =
        in_group (within c (binders_of group) s) group
        ++ in_expr (within c (binders_of group) s) body
    in_expr s (Case tested alts) = in_expr s tested ++ in_alts s alts

    pub in_alts : Scope → Alts → List Abstraction
    in_alts s NoAlts = []
    in_alts s (AndAlt p body rest) = in_expr (within c (bound_by p) s) body ++ in_alts s rest

  abbrev pub in_functions : List Function → List Abstraction
  in_functions [] = []
  in_functions (f ∷ fs) = in_expr (within c f.params []) f.body ++ in_functions fs

  -- how many a piece has
  abbrev pub count_term : Scope → Term → ℕ
  count_term s a = length (in_term s a)

  abbrev pub count_terms : Scope → Terms → ℕ
  count_terms s xs = length (in_terms s xs)

  abbrev pub count_group : Scope → Group → ℕ
  count_group s group = length (in_group s group)

  abbrev pub count : Scope → Expr → ℕ
  count s e = length (in_expr s e)

abbrev pub abstractions : Program → List Abstraction
abstractions c = in_functions c c.functions
