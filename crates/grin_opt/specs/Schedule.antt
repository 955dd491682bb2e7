-- The passes after the inlining.
use Rattle.grin_syntax.specs.Tree.{Program}
use Rattle.grin_syntax.specs.Formed.{Formed}
use Rattle.grin_meaning.specs.Keeps.{Keeps}
use Rattle.grin_meaning.specs.Ready.{Ready, IsFetchedByWords}
use Rattle.pass_ground.specs.Vectors.{IsVectorForm}
use Rattle.vectorise.specs.Whole.{UsesWholeNodes}
use Rattle.vectorise.specs.Widened.{Widened}
use Rattle.case_simplify.specs.Simplified.{Simplified}
use Rattle.fetch_passes.specs.Fetched.{Fetched}
use Rattle.copy_prop.specs.Copied.{Copied}
use Rattle.update_special.specs.Updated.{Updated}
use Rattle.unbox_theory.specs.Unboxed.{Unboxed}
use Rattle.raise_theory.specs.Raised.{Raised}
use Rattle.pass_flat.specs.Flattened.{Flattened}
use Rattle.grin_opt.specs.Several.{AfterKnownWords, AfterOwnCells, AfterDeadStores}
use Rattle.stage_names.specs.declared.PassName.{PassName}
use Rattle.stage_names.specs.declared.PassName.TheVariants.{Translate, Eval, Apply, Vectorise, Simplify, Fetch, Copy, Update, Unbox, Raise, Flat, Known, Cells, Dead}

-- the stages from the inlining of applications on
abbrev pub IsAfterInlining : PassName → Type 0
IsAfterInlining Translate = ⊥
IsAfterInlining Eval = ⊥
IsAfterInlining _ = Unit {0}

-- the stages that one of these passes makes: all of them but the inlining itself
abbrev pub IsPass : PassName → Type 0
IsPass Apply = ⊥
IsPass k = IsAfterInlining k

-- what the first pass takes: well-formed programs without eval and apply in which no part of a node
-- stands by itself
abbrev pub IsFirstPassInput : Program → Type 0
IsFirstPassInput g = Formed g × Ready g × UsesWholeNodes g

-- what a pass after the inlining says of its input and its answer
abbrev pub pass_relation : PassName → Program → Program → Type 0
pass_relation Vectorise g h = Widened g h
pass_relation Simplify g h = Simplified g h
pass_relation Fetch g h = Fetched g h
pass_relation Copy g h = Copied g h
pass_relation Update g h = Updated g h
pass_relation Unbox g h = Unboxed g h
pass_relation Raise g h = Raised g h
pass_relation Flat g h = Flattened g h
pass_relation Known g h = AfterKnownWords g h
pass_relation Cells g h = AfterOwnCells g h
pass_relation Dead g h = AfterDeadStores g h
pass_relation _ g h = ⊥

-- the stage that such a pass takes
abbrev pub before : PassName → PassName
before Vectorise = Apply
before Simplify = Vectorise
before Fetch = Simplify
before Copy = Fetch
before Update = Copy
before Unbox = Update
before Raise = Unbox
before Flat = Raise
before Known = Flat
before Cells = Known
before Dead = Cells
before k = k

-- what the programs of such a stage are: of vectors, from the first pass on, and without a fetch of
-- a whole node, from the pass on that splits these
abbrev pub IsOfStage : PassName → Program → Type 0
IsOfStage Translate g = ⊥
IsOfStage Eval g = ⊥
IsOfStage Apply g = IsFirstPassInput g
IsOfStage Vectorise g = IsVectorForm g
IsOfStage Simplify g = IsVectorForm g
IsOfStage _ g = IsVectorForm g × IsFetchedByWords g

-- what a pass takes: the programs of the stage before it
abbrev pub IsPassInput : PassName → Program → Type 0
IsPassInput k g = IsPass k × IsOfStage (before k) g

-- what one pass makes of g: it has the pass's shape, and keeps what g does
pub record IsPassResult (k : PassName) (g h : Program) : Type 0 where
  pub shape : pass_relation k g h
  pub keeps : Keeps g h

-- The program after the passes up to this one: itself; or it has the pass's shape beside the
-- program before, and keeps what g does.
pub data IsOptimised (g : Program) : PassName → Program → Type 0 where
  itself : IsOptimised g Apply g
  by_pass : {k : PassName} {h h' : Program} → IsOptimised g (before k) h → pass_relation k h h'
      → Keeps g h' → IsOptimised g k h'
