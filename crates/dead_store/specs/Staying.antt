-- The sites whose cells are read, and so stay.
use Rattle.std.specs.Prelude.{ℕ, ◌≡◌, ◌↔◌, ◌⊎◌, Bool, true, false, List, map}
use Rattle.grin_syntax.specs.declared.program.VarId.{VarId}
use Rattle.grin_syntax.specs.declared.program.Word.{Word}
use Rattle.grin_syntax.specs.declared.program.Word.TheVariants.{Var}
use Rattle.grin_syntax.specs.Tree.{Program}
use Rattle.seq.specs.Lists.{In}
use Rattle.flow_system.specs.declared.fact.Element.TheVariants.{Cell as cell_of}
use Rattle.flow_system.specs.Tables.{tables}
use Rattle.flow_system.specs.declared.fact.Place.TheVariants.{Var as var}
use Rattle.flow_system.specs.declared.fact.Part.TheVariants.{Word as word}
use Rattle.flow_system.specs.Solution.{Solution, At, StandsFor}
use Rattle.dead_store.specs.Reads.{reads_of}

abbrev pub IsGlobalSite : Program → ℕ → Type 0
IsGlobalSite g s = In s (map (λ c. c.site.0) g.globals)

module _ (A : Solution) (g : Program) where
  -- one of these words may stand for a cell of the site
  abbrev pub IsReadBy : List Word → ℕ → Type 0
  IsReadBy ws s = (a : Word) × In a ws × StandsFor (tables g) A a (cell_of s)

  module _ (updates_count : Bool) where
    -- the cells of a site are global, or a fetch of the program may go to one of them, or an update
    -- where these count
    abbrev pub IsGlobalOrRead : ℕ → Type 0
    IsGlobalOrRead s = IsGlobalSite g s ⊎ IsReadBy (reads_of updates_count g.procs) s

    abbrev pub AreReadSites : (ℕ → Bool) → Type 0
    AreReadSites sites = (s : ℕ) → (sites s ≡ true) ↔ IsGlobalOrRead s

  -- the cells of a site stay where they are global or at the operand of a fetch or of an update
  abbrev pub AreStaying : (ℕ → Bool) → Type 0
  AreStaying = AreReadSites true

  -- updates are left aside
  abbrev pub AreFetched : (ℕ → Bool) → Type 0
  AreFetched = AreReadSites false

-- the sites of the cells that a word stands for as a variable are put into a set
module _ (A : Solution) (a : Word) where
  abbrev pub HasCell : ℕ → Type 0
  HasCell s = (x : VarId) × (a ≡ Var x) × At A (var x.0) (word 0) (cell_of s)

  pub record CellsJoin (old new : List ℕ) : Type 0 where
    pub kept : (s : ℕ) → In s old → In s new
    pub put : (s : ℕ) → HasCell s → In s new
    pub only : (s : ℕ) → In s new → In s old ⊎ HasCell s
