-- What the names of a text with lambdas stand for: as in Core, by what it declares.
use Rattle.std.specs.Prelude.{ℕ, Bool, true, false, List, [], ◌∷◌, map}
use Rattle.core_reader.specs.declared.syntax.Binder.{Binder}
use Rattle.core_reader.specs.Tree as core
use Rattle.lambda_reader.specs.Tree.{Group, NoBinds, AndValue, AndFunction, Program}
use Rattle.lambda_reader.specs.Tree as tree
use Rattle.lambda_reader.specs.Plain.{plain}
use Rattle.arity_check.specs.declared.meaning.Meaning.{Meaning}
use Rattle.arity_check.specs.declared.meaning.Meaning.TheVariants.{Local, Function, Primitive, Unbound}
use Rattle.arity_check.specs.Scope.{Scope}
use Rattle.arity_check.specs.Scope as scope
use Rattle.arity_check.specs.Pieces as pieces
pub use Rattle.arity_check.specs.Pieces.{names_of, bound_by}

-- its declarations, as a program of Core. What stands in the bodies is of no account
abbrev pub function_header : tree.Function → core.Function
function_header f = record { name = f.name; at = f.at; params = f.params; body = plain f.body }

abbrev pub program_headers : Program → core.Program
program_headers c = record {
  names = c.names;
  constructors = c.constructors;
  functions = map function_header c.functions;
}

abbrev pub binders_of : Group → List Binder
binders_of NoBinds = []
binders_of (AndValue b head args rest) = b ∷ binders_of rest
binders_of (AndFunction b params body rest) = b ∷ binders_of rest

module _ (c : Program) where
  abbrev pub means : Scope → ℕ → Meaning
  means = scope.means (program_headers c)

  -- these binders are in scope
  abbrev pub within : List Binder → Scope → Scope
  within = pieces.within (program_headers c)

  abbrev pub stands_for_local : Meaning → Bool
  stands_for_local (Local x) = true
  stands_for_local (Function f params) = false
  stands_for_local (Primitive op) = false
  stands_for_local Unbound = false

  -- The name stands for a local that is in scope.
  abbrev pub is_local : Scope → ℕ → Bool
  is_local s x = stands_for_local (means s x)
