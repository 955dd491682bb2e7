-- Parameters that stand for cells whose nodes have one tag, and never change.
use Rattle.std.specs.Prelude.{ℕ, ◌≡◌, ◌≢◌, false, Some, slice_get}
use Rattle.grin_syntax.specs.declared.program.TagKind.TheVariants as kind
use Rattle.grin_syntax.specs.declared.program.Tag.{Tag}
use Rattle.grin_syntax.specs.Formed.{AllOf}
use Rattle.grin_syntax.specs.Tree.{Procedure, Program}
use Rattle.flow_system.specs.declared.fact.Element.{Element as AbstractWord}
use Rattle.flow_system.specs.declared.fact.Element.TheVariants.{Cell as cell_of, Tag as tag, Number as num}
use Rattle.flow_system.specs.declared.fact.Place.TheVariants.{Site as site, Var as var}
use Rattle.flow_system.specs.declared.fact.Part.TheVariants.{Tags as tags, Word as word}
use Rattle.flow_system.specs.Tables.{tables}
use Rattle.flow_system.specs.Solution.{Solution, At, StandsFor}
use Rattle.pass_ground.specs.Uses.{code_uses_as_value}
use Rattle.pass_ground.specs.Updated.{updated_of}

abbrev pub IsCell : AbstractWord → Type 0
IsCell (cell_of s) = Unit {0}
IsCell (tag t) = ⊥
IsCell num = ⊥

module _ (A : Solution) (g : Program) where
  -- no cell of the site is updated, by the solution
  abbrev pub NeverUpdated : ℕ → Type 0
  NeverUpdated s = AllOf (λ a. StandsFor (tables g) A a (cell_of s) → ⊥) (updated_of g.procs)

  -- a tag of values, with so many fields
  pub record IsValueTag (t k : ℕ) : Type 0 where
    pub info : Tag
    pub is_tag : slice_get g.tags t ≡ Some info
    pub not_delayed : info.kind ≢ kind.Fun
    pub fields : info.fields ≡ k

  -- the parameter x of q stands for cells alone, and is used as the cell of fetches alone; those
  -- cells have together exactly the tag t, one of values with k fields; and none of them is updated
  pub record Raisable (q : Procedure) (x t k : ℕ) : Type 0 where
    pub only_fetched : code_uses_as_value x q.body ≡ false
    pub cells_alone : (u : AbstractWord) → At A (var x) (word 0) u → IsCell u
    pub cell : ℕ
    pub there : At A (var x) (word 0) (cell_of cell)
    pub has_tag : At A (site cell) tags (tag t)
    pub one_tag :
        (s u : ℕ) → At A (var x) (word 0) (cell_of s) → At A (site s) tags (tag u) → u ≡ t
    pub value : IsValueTag t k
    pub unchanged : (s : ℕ) → At A (var x) (word 0) (cell_of s) → NeverUpdated s
