-- Raising by a solution keeps what a program does.
use Rattle.std.specs.Prelude.{ℕ, ◌≤◌, List}
use Rattle.grin_syntax.specs.Tree.{Program}
use Rattle.grin_syntax.specs.SameOutside.{DifferOnlyInBodies}
use Rattle.grin_meaning.specs.Ready.{IsFetchedByWords}
use Rattle.grin_meaning.specs.Keeps.{Keeps}
use Rattle.flow_system.specs.Tables.{tables}
use Rattle.flow_system.specs.System.{system}
use Rattle.flow_system.specs.Solution.{Solution, Solves}
use Rattle.pass_ground.specs.Vectors.{IsVectorForm, NarrowTargets}
use Rattle.pass_ground.specs.OpenUpdates.{updates_with_variable_tag}
use Rattle.raise_theory.specs.Raising.{Decisions, raised}
use Rattle.raise_theory.specs.Decided.{IsDecided}

-- h does what g does and can be taken where g can, with the tags, the global cells, the start and
-- the names of g, and targets that are no wider, where one variable is wide enough for a word. No
-- update loses its literal tag
pub record RaisedKeeps (g h : Program) : Type 0 where
  pub of_vectors : IsVectorForm h
  pub outside : DifferOnlyInBodies g h
  pub narrow : (most : ℕ) → 1 ≤ most → NarrowTargets most g → NarrowTargets most h
  pub by_words : IsFetchedByWords h
  pub no_more_open : updates_with_variable_tag h ≤ updates_with_variable_tag g
  pub keeps : Keeps g h

-- whatever solution the decisions are by
abbrev pub RaisingKeeps : Type 0
RaisingKeeps =
    (g : Program) (A : Solution) (D : List Decisions) (n : ℕ) → IsVectorForm g → IsFetchedByWords g
    → Solves (tables g) (system g) A → IsDecided A g D n → RaisedKeeps g (raised D n g)
