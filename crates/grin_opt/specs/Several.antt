-- Stages that several passes make, one after another.
use Rattle.std.specs.Prelude.{◌≡◌, ℕ, ◌≤◌, Bool, true, List}
use Rattle.grin_syntax.specs.Binders.{procs_sites}
use Rattle.grin_syntax.specs.Formed.{AllOf}
use Rattle.grin_syntax.specs.Tree.{Program}
use Rattle.grin_meaning.specs.Values.{HeapCell}
use Rattle.grin_meaning.specs.Run.{run}
use Rattle.grin_meaning.specs.Keeps.{world_of}
use Rattle.flow_system.specs.Tables.{tables}
use Rattle.flow_system.specs.System.{system}
use Rattle.flow_system.specs.Solution.{Solution, IsLeast}
use Rattle.pass_ground.specs.Vectors.{StaysVectorForm}
use Rattle.pass_ground.specs.OpenUpdates.{updates_with_variable_tag}
use Rattle.case_simplify.specs.Simplified.{Simplified}
use Rattle.copy_prop.specs.Copied.{Copied}
use Rattle.pass_flat.specs.Flattened.{Flattened}
use Rattle.pass_known.specs.KnownWords.{KnownWords, ToldWords}
use Rattle.pass_narrow.specs.NarrowBy.{NarrowBy}
use Rattle.pass_cells.specs.Unknown.{RefetchesNothing}
use Rattle.pass_order.specs.Ordered.{Ordered}
use Rattle.dead_store.specs.Kept.{kept}
use Rattle.dead_store.specs.Staying.{AreFetched, AreStaying}
use Rattle.dead_store.specs.Unread.{AgreeWhereFetched, UnreadUpdatesRemovedBy}
use Rattle.dead_store.specs.Stored.{DeadStoresRemovedBy}

-- What two passes make, one after the other, by what each of them makes. Each makes one program of
-- its input, so the program between is that one.
pub record Composed (First Second : Program → Program → Type 0) (g h : Program) : Type 0 where
  pub between : Program
  pub first : First g between
  pub second : Second between h

-- h is what these passes make of g. So it is as good an input for a pass as g, and no update loses
-- its literal tag
pub record MadeByPasses (Passes : Program → Program → Type 0) (g h : Program) : Type 0 where
  pub stays : StaysVectorForm g h
  pub no_more_open : updates_with_variable_tag h ≤ updates_with_variable_tag g
  pub by : Passes g h

-- no case on a known tag is left; then no nested block; and then no copy
abbrev pub Tidied : Program → Program → Type 0
Tidied = Composed Simplified (Composed Flattened Copied)

-- literals stand for the words that alternatives tell; and then the program is tidied
abbrev pub LiteralsThenTidied : Program → Program → Type 0
LiteralsThenTidied = Composed ToldWords Tidied

-- literals stand for the words that are known by the least solution too; and then it is tidied
abbrev pub KnownWordsThenTidied : Program → Program → Type 0
KnownWordsThenTidied = Composed KnownWords Tidied

-- first those that are told: the solution says more of a program in which their literals stand
abbrev pub AfterKnownWords : Program → Program → Type 0
AfterKnownWords = MadeByPasses (Composed LiteralsThenTidied KnownWordsThenTidied)

-- no word is fetched from a cell of the procedure's own that is known to hold it; then the program
-- is tidied; and then each case tests for values before it tests for delayed calls
abbrev pub AfterOwnCells : Program → Program → Type 0
AfterOwnCells = MadeByPasses (Composed RefetchesNothing (Composed Tidied Ordered))

-- what these passes make, one after another, by one solution
abbrev pub UnreadBy : Solution → Program → Program → Type 0
UnreadBy A =
    Composed (NarrowBy A)
    (Composed (UnreadUpdatesRemovedBy A) (Composed (DeadStoresRemovedBy A) Copied))

-- By the least solution of g words that nobody reads are gone from vectors, then updates of cells
-- that no fetch reads, and then cells that nothing reads; it still solves what is made each time.
-- At the end copies go. So no store of h has a site that nobody reads, and at the end of each run
-- its cells are, in order, those of the run of g whose site stays. Each that a fetch may read has
-- the same tag and words, with cells by this order, and cells that left as 0.
pub record UnreadLeftOut (g h : Program) : Type 0 where
  pub solution : Solution
  pub least : IsLeast (tables g) (system g) solution
  pub by : UnreadBy solution g h
  pub fetched : ℕ → Bool
  pub stays : ℕ → Bool
  pub are_fetched : AreFetched solution by.between fetched
  pub are_staying : AreStaying solution by.second.between stays
  pub all_stay : AllOf (λ s. stays s ≡ true) (procs_sites h.procs)
  pub heaps : (i : List ℕ) (n : ℕ)
      → (c : List HeapCell) × AgreeWhereFetched fetched (world_of (run g i n)).cells c
      × ((world_of (run h i n)).cells ≡ kept stays c)

abbrev pub AfterDeadStores : Program → Program → Type 0
AfterDeadStores = MadeByPasses UnreadLeftOut
