-- The program of Core in which each lambda and each local function is a function of its own.
use Rattle.std.specs.Prelude.{◌≢◌, ℕ, zero, suc, ◌+◌, ◌<◌, List, [], ◌∷◌, ◌++◌, map, length, All, codes, decimal}
use Rattle.core_reader.specs.declared.syntax.Binder.{Binder}
use Rattle.core_reader.specs.Tree as core
use Rattle.core_reader.specs.Grammar.{name_id}
use Rattle.lambda_reader.specs.Tree.{Term, Terms, NoTerms, AndTerm, Group, NoBinds, AndValue, AndFunction, Expr, App, Let, Case, Alts, NoAlts, AndAlt, Function, Program}
use Rattle.lambda_reader.specs.Tree as tree
use Rattle.arity_check.specs.Scope.{Scope}
use Rattle.lambda_lift.specs.Headers.{bound_by, binders_of, within}
use Rattle.lambda_lift.specs.Free.{free}
use Rattle.lambda_lift.specs.Abstractions.{Abstraction, abstractions, count_term, count_terms, count_group, count}

-- names as arguments, and as parameters
abbrev pub arguments : ℕ → List ℕ → core.Terms
arguments at [] = core.NoTerms
arguments at (x ∷ xs) = core.AndTerm (core.Name x at) (arguments at xs)

abbrev pub parameters : ℕ → List ℕ → List Binder
parameters at xs = map (λ x. record { name = name_id x; at = at }) xs

-- the names of the functions number k and up, so many of them
abbrev pub lifted_names : ℕ → ℕ → List (List ℕ)
lifted_names k zero = []
lifted_names k (suc n) = (codes "lift'" ++ decimal k) ∷ lifted_names (suc k) n

-- The first lambda or local function of a piece has the number k, and the others follow in text
-- order.
module _ (c : Program) where
  abbrev pub lifted_name : ℕ → ℕ
  lifted_name k = length c.names + k

  -- number k, applied to the names that are free in it
  abbrev pub applied : Scope → ℕ → List Binder → Expr → ℕ → core.Application
  applied s k params body at = record {
    head = core.Name (lifted_name k) at;
    args = arguments at (free c s params body);
  }

  abbrev mutual
    pub lift_term : Scope → ℕ → Term → core.Term
    lift_term s k (tree.Name x at) = core.Name x at
    lift_term s k (tree.Con d at) = core.Con d at
    lift_term s k (tree.Int n at) = core.Int n at
    lift_term s k (tree.Bracket head args at) =
        core.Bracket (lift_term s k head) (lift_terms s (k + count_term c s head) args) at
    lift_term s k (tree.Lambda params body at) =
        core.Bracket (core.Name (lifted_name k) at) (arguments at (free c s params body)) at

    pub lift_terms : Scope → ℕ → Terms → core.Terms
    lift_terms s k NoTerms = core.NoTerms
    lift_terms s k (AndTerm a xs) =
        core.AndTerm (lift_term s k a) (lift_terms s (k + count_term c s a) xs)

  -- the scope is that in the group
  abbrev pub lift_group : Scope → ℕ → Group → List core.Bind
  lift_group s k NoBinds = []
  lift_group s k (AndValue b head args rest) =
      record {
        binder = b;
        app = record {
          head = lift_term s k head;
          args = lift_terms s (k + count_term c s head) args;
        };
      } ∷ lift_group s (k + (count_term c s head + count_terms c s args)) rest
  lift_group s k (AndFunction b params body rest) =
      record { binder = b; app = applied s k params body b.at }
      ∷ lift_group s (k + suc (count c (within c params s) body)) rest

  abbrev mutual
    pub lift : Scope → ℕ → Expr → core.Expr
    lift s k (App head args) =
        core.App (record {
          head = lift_term s k head;
          args = lift_terms s (k + count_term c s head) args;
        })
    lift s k (Let group body) =
        let inner : Scope = within c (binders_of group) s in
        core.Let (lift_group inner k group) (lift inner (k + count_group c inner group) body)
    lift s k (Case tested alts) =
        core.Case (lift s k tested) (lift_alts s (k + count c s tested) alts)

    pub lift_alts : Scope → ℕ → Alts → core.Alts
    lift_alts s k NoAlts = core.NoAlts
    lift_alts s k (AndAlt p body rest) =
        core.AndAlt p (lift (within c (bound_by p) s) k body)
        (lift_alts s (k + count c (within c (bound_by p) s) body) rest)

  -- the function number k: the free names are its first parameters
  abbrev pub lifted_function : ℕ → Abstraction → core.Function
  lifted_function k a = record {
    name = lifted_name k;
    at = a.at;
    params = parameters a.at (free c a.scope a.params a.body) ++ a.params;
    body = lift (within c a.params a.scope) (suc k) a.body;
  }

  abbrev pub lifted_functions : ℕ → List Abstraction → List core.Function
  lifted_functions k [] = []
  lifted_functions k (a ∷ rest) = lifted_function k a ∷ lifted_functions (suc k) rest

  -- the text's functions with what stands in place of their lambdas and local functions
  abbrev pub lifted_bodies : ℕ → List Function → List core.Function
  lifted_bodies k [] = []
  lifted_bodies k (f ∷ fs) =
      record {
        name = f.name;
        at = f.at;
        params = f.params;
        body = lift (within c f.params []) k f.body;
      } ∷ lifted_bodies (k + count c (within c f.params []) f.body) fs

abbrev pub lifted : Program → core.Program
lifted c = record {
  names = c.names ++ lifted_names 0 (length (abstractions c));
  constructors = c.constructors;
  functions = lifted_bodies c 0 c.functions ++ lifted_functions c 0 (abstractions c);
}

-- a name is not that of one of the functions number 0 to n
abbrev pub IsNotLifted : ℕ → List ℕ → Type 0
IsNotLifted n w = (k : ℕ) → k < n → w ≢ codes "lift'" ++ decimal k

-- no name of a program is that of a function that lifting adds
abbrev pub HasNoLiftedName : Program → Type 0
HasNoLiftedName c = All (IsNotLifted (length (abstractions c))) c.names
