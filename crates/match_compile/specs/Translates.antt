-- What the program that equations become owes them.
use Rattle.std.specs.Prelude.{◌≡◌, ℕ, ◌+◌, ◌*◌, ◌≤◌, true, ◌||◌, List, ◌∷◌, ◌++◌, map, length}
use Rattle.seq.specs.Lists.{In, sum_of}
use Rattle.core_reader.specs.Tree.{Program}
use Rattle.core_reader.specs.Size.{program_size}
use Rattle.arity_check.specs.Broken.{Broken}
use Rattle.arity_check.specs.Program as normal
use Rattle.arity_check.specs.Accepted.{BreaksNoRule}
use Rattle.arity_check.specs.Normal.{IsNormalForm}
use Rattle.core_meaning.specs.Told.{core_program_meaning}
use Rattle.match_compile.specs.Source.{Equation, Source}
use Rattle.match_compile.specs.Sound.{IsSound}
use Rattle.match_compile.specs.Sizes.{source_size, tests, most_equations, functions, is_simple, is_plain}
use Rattle.match_compile.specs.Form.{Equations, IsFormOf}
use Rattle.match_compile.specs.ByEquations.{equations_meaning}
use Rattle.match_compile.specs.Within.{Within, SameWithinSameUnits}
use Rattle.match_compile.specs.OneFunction.{IsOneFunction}

-- each function is simple, or one equation of names alone
abbrev pub AreSimple : Source → Type 0
AreSimple c =
    (es : List Equation) → In es (functions c.equations) → (is_simple es || is_plain es) ≡ true

-- The program breaks no rule but the one on its size, where each equation as a function of its own
-- breaks none; it is no larger than the equations, with 16 for each test; it puts out what they do,
-- where it breaks no rule, with no more units for one of theirs than the largest function has
-- equations, and with as many where each function is simple; and such a function is one in it.
pub record Translates (c : Source) (program : Program) : Type 0 where
  pub rules : IsSound c → (k at : ℕ) → Broken program k at → k ≡ 35
  pub size : program_size program ≤ source_size c + 16 * tests c
  pub means : (p : normal.Program) → BreaksNoRule program → IsNormalForm program p
      → (q : Equations) × IsFormOf c q
      × Within (most_equations c) (equations_meaning q) (core_program_meaning p)
      × (AreSimple c → SameWithinSameUnits (equations_meaning q) (core_program_meaning p))
  pub one : (before after : List (List Equation)) (es : List Equation)
      → functions c.equations ≡ before ++ es ∷ after → (is_simple es || is_plain es) ≡ true
      → IsOneFunction c (length before) (sum_of (map length before)) es
