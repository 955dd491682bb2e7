-- The free names of a lambda or a local function.
use Rattle.std.specs.Prelude.{ℕ, ◌==◌, List, [], ◌∷◌, ◌++◌, filter, if◌then◌else◌, not}
use Rattle.seq.specs.Lists.{is_among}
use Rattle.core_reader.specs.declared.syntax.Binder.{Binder}
use Rattle.lambda_reader.specs.Tree.{Term, Terms, NoTerms, AndTerm, Group, NoBinds, AndValue, AndFunction, Expr, App, Let, Case, Alts, NoAlts, AndAlt, Program}
use Rattle.lambda_reader.specs.Tree as tree
use Rattle.arity_check.specs.Scope.{Scope}
use Rattle.lambda_lift.specs.Headers.{names_of, bound_by, binders_of, is_local}

-- the names that a piece uses where these are bound inside, in text order
abbrev mutual
  pub uses_term : List ℕ → Term → List ℕ
  uses_term inside (tree.Name x at) = if is_among x inside then [] else x ∷ []
  uses_term inside (tree.Con c at) = []
  uses_term inside (tree.Int k at) = []
  uses_term inside (tree.Bracket head args at) = uses_term inside head ++ uses_terms inside args
  uses_term inside (tree.Lambda params body at) = uses (names_of params ++ inside) body

  pub uses_terms : List ℕ → Terms → List ℕ
  uses_terms inside NoTerms = []
  uses_terms inside (AndTerm a xs) = uses_term inside a ++ uses_terms inside xs

  pub uses_group : List ℕ → Group → List ℕ
  uses_group inside NoBinds = []
  uses_group inside (AndValue b head args rest) =
      uses_term inside head ++ (uses_terms inside args ++ uses_group inside rest)
  uses_group inside (AndFunction b params body rest) =
      uses (names_of params ++ inside) body ++ uses_group inside rest

  pub uses : List ℕ → Expr → List ℕ
  uses inside (App head args) = uses_term inside head ++ uses_terms inside args
  uses inside (Let group body) =
      uses_group (names_of (binders_of group) ++ inside) group
      ++ uses (names_of (binders_of group) ++ inside) body
  uses inside (Case tested alts) = uses inside tested ++ uses_alts inside alts

  pub uses_alts : List ℕ → Alts → List ℕ
  uses_alts inside NoAlts = []
  uses_alts inside (AndAlt p body rest) =
      uses (names_of (bound_by p) ++ inside) body ++ uses_alts inside rest

-- each once, at its first place
abbrev pub without_repeats : List ℕ → List ℕ
without_repeats [] = []
without_repeats (x ∷ xs) = x ∷ filter (λ y. not (y == x)) (without_repeats xs)

-- The locals around a lambda or a local function that its body uses, in the order of first use. The
-- scope of a local function has the binders of its group.
abbrev pub free : Program → Scope → List Binder → Expr → List ℕ
free c s params body = without_repeats (filter (is_local c s) (uses (names_of params) body))
