-- A program without the updates of cells that no fetch reads.
use Rattle.std.specs.Prelude.{◌≡◌, ℕ, Bool, true, false, cond, not, ◌||◌, List, [], ◌∷◌, ◌≤◌}
use Rattle.grin_syntax.specs.declared.program.Word as W
use Rattle.grin_syntax.specs.declared.program.Word.TheVariants.{Var}
use Rattle.grin_syntax.specs.declared.program.Val.TheVariants.{Vector}
use Rattle.grin_syntax.specs.Tree.{Act, Leaf, leaf, unit, update, Program}
use Rattle.grin_meaning.specs.Values.{HeapCell}
use Rattle.grin_meaning.specs.Run.{run}
use Rattle.grin_meaning.specs.Keeps.{world_of}
use Rattle.grin_meaning.specs.Ready.{PieceKind, any_kind, EveryBodyIsOfKind}
use Rattle.grin_meaning.specs.Rewritten.{rewritten}
use Rattle.grin_meaning.specs.Slim.{Slim}
use Rattle.flow_system.specs.declared.fact.Element.{Element as AbstractWord}
use Rattle.flow_system.specs.declared.fact.Element.TheVariants.{Cell as cell_of, Tag as tag, Number as num}
use Rattle.flow_system.specs.declared.fact.Place.TheVariants.{Var as var}
use Rattle.flow_system.specs.declared.fact.Part.TheVariants.{Word as word}
use Rattle.flow_system.specs.Tables.{tables}
use Rattle.flow_system.specs.System.{system}
use Rattle.flow_system.specs.Solution.{Solution, At, Solves}
use Rattle.grin_rewrite.specs.Rewriting.{rewrite_code}
use Rattle.pass_ground.specs.OpenUpdates.{updates_with_variable_tag}
use Rattle.pass_ground.specs.Vectors.{StaysVectorForm}
use Rattle.dead_store.specs.Staying.{AreFetched}

module _ (fetched : ℕ → Bool) where
  -- a cell of one of these sites
  abbrev pub is_fetched_cell : AbstractWord → Bool
  is_fetched_cell (cell_of s) = fetched s
  is_fetched_cell (tag t) = false
  is_fetched_cell num = false

  abbrev pub has_fetched_cell : List AbstractWord → Bool
  has_fetched_cell [] = false
  has_fetched_cell (u ∷ us) = is_fetched_cell u || has_fetched_cell us

  -- these heaps have the same cells, but for what those of other sites hold
  abbrev pub AgreeWhereFetched : List HeapCell → List HeapCell → Type 0
  AgreeWhereFetched [] [] = Unit {0}
  AgreeWhereFetched (c ∷ cs) (c' ∷ cs') =
      (c'.site ≡ c.site) × (fetched c.site ≡ true → c'.node ≡ c.node) × AgreeWhereFetched cs cs'
  AgreeWhereFetched _ _ = ⊥

module _ (A : Solution) (fetched : ℕ → Bool) where
  -- a variable may stand for one of the cells of these sites
  abbrev pub may_be_fetched : ℕ → Bool
  may_be_fetched x = has_fetched_cell fetched (A (var x) (word 0))

  -- it stands for none of them
  abbrev pub is_unread : W.Word → Bool
  is_unread (Var x) = not (may_be_fetched x.0)
  is_unread _ = false

  -- an update of such a variable's cell gives way to what it gives, no words
  abbrev pub read_leaf : Leaf → Act
  read_leaf (update a v) = cond (is_unread a) (leaf (unit (Vector []))) (leaf (update a v))
  read_leaf l = leaf l

  abbrev pub with_read_updates : Program → Program
  with_read_updates g = rewritten (rewrite_code read_leaf) g

  -- the variable of an update may stand for a cell of one of these sites
  abbrev pub MayBeFetched : W.Word → Type 0
  MayBeFetched (Var x) = (s : ℕ) × (fetched s ≡ true) × At A (var x.0) (word 0) (cell_of s)
  MayBeFetched _ = Unit {0}

  abbrev pub UpdateMayBeFetched : Act → Type 0
  UpdateMayBeFetched (leaf (update a v)) = MayBeFetched a
  UpdateMayBeFetched _ = Unit {0}

  abbrev pub read_update_kind : PieceKind
  read_update_kind = record any_kind { operation = UpdateMayBeFetched }

-- h is g without the updates on variables that stand, by the solution A, for no cell that is global
-- or that a fetch of g may read. So each update of h on a variable may go to such a cell, and at the
-- end of each run the heaps agree but for what other cells hold. A solves the flow system of h too.
-- h is as good an input for a pass as g, with no more updates without a literal tag, and no larger.
pub record UnreadUpdatesRemovedBy (A : Solution) (g h : Program) : Type 0 where
  pub stays : StaysVectorForm g h
  pub fetched : ℕ → Bool
  pub decided : AreFetched A g fetched
  pub made : h ≡ with_read_updates A fetched g
  pub all_read : EveryBodyIsOfKind (read_update_kind A fetched) h.procs
  pub still_solves : Solves (tables h) (system h) A
  pub no_more_open : updates_with_variable_tag h ≤ updates_with_variable_tag g
  pub slim : (size most : ℕ) → Slim size most g → Slim size most h
  pub heaps : (i : List ℕ) (n : ℕ)
      → AgreeWhereFetched fetched (world_of (run g i n)).cells (world_of (run h i n)).cells
