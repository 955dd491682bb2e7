-- What a module binds, and which of its declarations has an earlier one of its name. Devices of the
-- proofs.
use Rattle.std.specs.Prelude.{ℕ, ◌+◌, nat_lt, Bool, false, List, [], ◌∷◌, ◌++◌, Option, Some, None}
use Rattle.core_reader.specs.declared.syntax.Binder.{Binder}
use Rattle.core_reader.specs.Grammar.{name_id}
use Rattle.core_reader.specs.Tree.{Expr, App, Let, Case, Alts, NoAlts, AndAlt, Function}
use Rattle.arity_check.specs.Pieces.{binders_of, bound_by}

-- all binders of an expression
abbrev mutual
  pub bound_in : Expr → List Binder
  bound_in (App app) = []
  bound_in (Let group e) = binders_of group ++ bound_in e
  bound_in (Case e alts) = bound_in e ++ bound_in_alts alts

  pub bound_in_alts : Alts → List Binder
  bound_in_alts NoAlts = []
  bound_in_alts (AndAlt p e alts) = (bound_by p ++ bound_in e) ++ bound_in_alts alts

abbrev pub function_binder : Function → Binder
function_binder f = record { name = name_id f.name; at = f.at }

-- the name of a function, and all binders in it
abbrev pub bound_in_function : Function → List Binder
bound_in_function f = function_binder f ∷ (f.params ++ bound_in f.body)

abbrev pub bound_in_functions : List Function → List Binder
bound_in_functions [] = []
bound_in_functions (f ∷ fs) = bound_in_function f ++ bound_in_functions fs

-- ---- declarations

-- a declaration isn't the first of its name, where the first has this number
abbrev pub is_redeclaration : Option ℕ → ℕ → Bool
is_redeclaration None i = false
is_redeclaration (Some n) i = nat_lt n i

-- each item behind its number, from a number on
abbrev pub numbered : {X : Type 0} → ℕ → List X → List (ℕ × X)
numbered i [] = []
numbered i (x ∷ xs) = (i, x) ∷ numbered (i + 1) xs
