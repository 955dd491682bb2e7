-- When the equations of a function become one function of the program.
use Rattle.std.specs.Prelude.{◌≡◌, ◌≢◌, ℕ, ◌+◌, ◌<◌, List, length, slice_get, Some, None}
use Rattle.seq.specs.Lists.{In}
use Rattle.core_reader.specs.Tree.{Function}
use Rattle.match_compile.specs.Source.{Equation, Source}
use Rattle.match_compile.specs.Decisions.{Decision, DecidesEquations}
use Rattle.match_compile.specs.Translated.{name_supply_of, equation_name, function_of, translated}

-- The equations of function i, of which the first has number k, have one tree, which function i of
-- the program is. It goes on with no other function, and none begins at one of these equations.
pub record IsOneFunction (c : Source) (i k : ℕ) (es : List Equation) : Type 0 where
  pub decision : Decision
  pub stands : DecidesEquations k es decision
  pub function : slice_get (translated c).functions i
      ≡ Some (function_of (name_supply_of c) decision.name decision None)
  pub no_other : (f : Function) → In f (translated c).functions → (j : ℕ) → j < length es
      → f.name ≢ equation_name (name_supply_of c) (k + j)
