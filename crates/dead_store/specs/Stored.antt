-- What the pass makes of a program.
use Rattle.std.specs.Prelude.{ℕ, ◌≡◌, ◌≤◌, Bool, true, List}
use Rattle.grin_syntax.specs.Binders.{procs_sites}
use Rattle.grin_syntax.specs.Formed.{AllOf}
use Rattle.grin_syntax.specs.Tree.{Program}
use Rattle.grin_syntax.specs.SameOutside.{DifferOnlyInBodies}
use Rattle.grin_meaning.specs.Run.{run}
use Rattle.grin_meaning.specs.Keeps.{world_of}
use Rattle.grin_meaning.specs.Ready.{IsFetchedByWords}
use Rattle.grin_meaning.specs.Slim.{procs_weight, Slim}
use Rattle.flow_system.specs.Tables.{tables}
use Rattle.flow_system.specs.System.{system}
use Rattle.flow_system.specs.Solution.{Solution, IsLeast}
use Rattle.pass_ground.specs.Vectors.{IsVectorForm, NarrowTargets}
use Rattle.pass_ground.specs.OpenUpdates.{updates_with_variable_tag}
use Rattle.dead_store.specs.Staying.{AreStaying}
use Rattle.dead_store.specs.Without.{without}
use Rattle.dead_store.specs.Kept.{kept}

-- h is what the pass makes of g by a solution, whatever program this is: the cells of the sites
-- that stay, and no others
pub record KeepsOnlyStayingCells (A : Solution) (g h : Program) : Type 0 where
  pub stays : ℕ → Bool
  pub decided : AreStaying A g stays
  pub made : h ≡ without stays g

-- at the end of each run of h its cells are, in order, those of the run of g whose site stays; so
-- each has the same tag and words, with cells by this order, and cells that left as 0
abbrev pub HeapKeepsStayingCells : (ℕ → Bool) → Program → Program → Type 0
HeapKeepsStayingCells stays g h =
    (i : List ℕ) (n : ℕ)
    → (world_of (run h i n)).cells ≡ kept stays (world_of (run g i n)).cells

-- h is what the pass makes of g by the solution A. So it can be taken where g can, has the tags,
-- the global cells, the start and the names of g, and targets that are no wider; no store has a
-- cell of a site that leaves; it is no larger, and no update loses its literal tag
pub record DeadStoresRemovedBy (A : Solution) (g h : Program) : Type 0 where
  pub of_vectors : IsVectorForm h
  pub outside : DifferOnlyInBodies g h
  pub narrow : (most : ℕ) → NarrowTargets most g → NarrowTargets most h
  pub by_words : IsFetchedByWords h
  pub no_more_open : updates_with_variable_tag h ≤ updates_with_variable_tag g
  pub left_by : KeepsOnlyStayingCells A g h
  pub all_stay : AllOf (λ s. left_by.stays s ≡ true) (procs_sites h.procs)
  pub no_larger : procs_weight h.procs ≤ procs_weight g.procs
  pub slim : (size most : ℕ) → Slim size most g → Slim size most h
  pub heaps : HeapKeepsStayingCells left_by.stays g h

-- the same by the least solution of the flow system of g
pub record Stored (g h : Program) : Type 0 where
  pub solution : Solution
  pub least : IsLeast (tables g) (system g) solution
  pub stored : DeadStoresRemovedBy solution g h
