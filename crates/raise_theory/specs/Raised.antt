-- What the pass makes of a program.
use Rattle.std.specs.Prelude.{ℕ, ◌≡◌, ◌≤◌, List}
use Rattle.grin_syntax.specs.Tree.{Program}
use Rattle.grin_syntax.specs.SameOutside.{DifferOnlyInBodies}
use Rattle.grin_meaning.specs.Ready.{IsFetchedByWords}
use Rattle.flow_system.specs.Tables.{tables}
use Rattle.flow_system.specs.System.{system}
use Rattle.flow_system.specs.Solution.{Solution, IsLeast}
use Rattle.pass_ground.specs.Vectors.{IsVectorForm, NarrowTargets}
use Rattle.pass_ground.specs.OpenUpdates.{updates_with_variable_tag}
use Rattle.raise_theory.specs.Raising.{Decisions, raised}
use Rattle.raise_theory.specs.Decided.{IsDecided}

-- h is what the pass makes of g, whatever program this is, by the least solution of the flow system
-- of g: each parameter is looked at from the left, and each one that can be raised and leaves room
-- is replaced by as many variables as its tag has fields, each other one stays. These variables
-- are new ones, in a row up to `next`; those into which the callers fetch the fields come after
pub record MadeByLeastSolution (g h : Program) : Type 0 where
  pub solution : Solution
  pub least : IsLeast (tables g) (system g) solution
  pub decisions : List Decisions
  pub next : ℕ
  pub decided : IsDecided solution g decisions next
  pub made : h ≡ raised decisions next g

-- h is what the pass makes of g. So it can be taken where g can, has the tags, the global cells,
-- the start and the names of g, and targets that are no wider, where one variable is wide enough
-- for a word. No update loses its literal tag
pub record Raised (g h : Program) : Type 0 where
  pub of_vectors : IsVectorForm h
  pub outside : DifferOnlyInBodies g h
  pub narrow : (most : ℕ) → 1 ≤ most → NarrowTargets most g → NarrowTargets most h
  pub by_words : IsFetchedByWords h
  pub by_least : MadeByLeastSolution g h
  pub no_more_open : updates_with_variable_tag h ≤ updates_with_variable_tag g
