-- What a solution says of the cells that a variable stands for.
use Rattle.std.specs.Prelude.{ℕ, ◌≡◌, ◌⊎◌, List}
use Rattle.std.specs.BTreeSet.{BTreeSet}
use Rattle.grin_syntax.specs.declared.program.Word.{Word}
use Rattle.grin_syntax.specs.Tree.{Program}
use Rattle.flow_system.specs.declared.fact.Element.{Element as AbstractWord}
use Rattle.flow_system.specs.declared.fact.Element.TheVariants.{Cell as cell_of, Tag as tag}
use Rattle.flow_system.specs.declared.fact.Place.TheVariants.{Site as site, Var as var}
use Rattle.flow_system.specs.declared.fact.Part.TheVariants.{Tags as tags, Word as word}
use Rattle.flow_system.specs.Tables.{tables}
use Rattle.flow_system.specs.Solution.{Solution, At, StandsFor}
use Rattle.points_to.specs.Held.{In}
use Rattle.pass_ground.specs.Updated.{updated_of}
use Rattle.raise_theory.specs.Raisable.{IsCell, NeverUpdated, IsValueTag}

module _ (A : Solution) where
  abbrev pub CellsAlone : (x : ℕ) → Type 0
  CellsAlone x = (u : AbstractWord) → At A (var x) (word 0) u → IsCell u

  -- a tag that is in one of the cells
  pub record HasTag (x t : ℕ) : Type 0 where
    pub cell : ℕ
    pub there : At A (var x) (word 0) (cell_of cell)
    pub has_tag : At A (site cell) tags (tag t)

  -- no other tag is in the cells of a site
  abbrev pub SiteHasOnly : (s t : ℕ) → Type 0
  SiteHasOnly s t = (u : ℕ) → At A (site s) tags (tag u) → u ≡ t

  -- no other tag is in the cells
  abbrev pub HasOnly : (x t : ℕ) → Type 0
  HasOnly x t = (s u : ℕ) → At A (var x) (word 0) (cell_of s) → At A (site s) tags (tag u) → u ≡ t

module _ (A : Solution) (g : Program) where
  abbrev pub Unchanged : (x : ℕ) → Type 0
  Unchanged x = (s : ℕ) → At A (var x) (word 0) (cell_of s) → NeverUpdated A g s

  -- x stands for cells alone, which never change; their one tag is t, one of values with k fields
  pub record Fixed (x t k : ℕ) : Type 0 where
    pub alone : CellsAlone A x
    pub unchanged : Unchanged x
    pub has : HasTag A x t
    pub only : HasOnly A x t
    pub value : IsValueTag A g t k

  -- the sites of the cells that a word stands for are added to a set
  pub record SitesJoin (a : Word) (old new : List ℕ) : Type 0 where
    pub kept : (s : ℕ) → In s old → In s new
    pub put : (s : ℕ) → StandsFor (tables g) A a (cell_of s) → In s new
    pub only : (s : ℕ) → In s new → In s old ⊎ StandsFor (tables g) A a (cell_of s)

  -- a set has just the sites of the cells that may be updated
  pub record UpdatedSites (sites : BTreeSet ℕ) : Type 0 where
    pub within : (s : ℕ) → In s sites.keys → NeverUpdated A g s → ⊥
    pub others : (s : ℕ) → (In s sites.keys → ⊥) → (a : Word) → In a (updated_of g.procs)
        → StandsFor (tables g) A a (cell_of s) → ⊥
