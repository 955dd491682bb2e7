-- What the passes after the inlining take out of a program stays out.
use Rattle.std.specs.Prelude.{ℕ, ◌≤◌}
use Rattle.grin_syntax.specs.Tree.{Program}
use Rattle.grin_meaning.specs.Ready.{IsInlined, IsVectorised, IsFetchedByWords}
use Rattle.fetch_passes.specs.Placed.{HasNoWordFetches}
use Rattle.pass_ground.specs.OpenUpdates.{updates_with_variable_tag}
use Rattle.stage_names.specs.declared.PassName.{PassName}
use Rattle.stage_names.specs.declared.PassName.TheVariants.{Translate, Eval, Apply, Vectorise, Simplify, Fetch, Copy, Update, Unbox, Raise, Flat, Known, Cells, Dead}
use Rattle.grin_opt.specs.Schedule.{IsFirstPassInput, pass_relation, before, IsOptimised}

-- the stages, counted
abbrev pub place : PassName → ℕ
place Translate = 0
place Eval = 1
place Apply = 2
place Vectorise = 3
place Simplify = 4
place Fetch = 5
place Copy = 6
place Update = 7
place Unbox = 8
place Raise = 9
place Flat = 10
place Known = 11
place Cells = 12
place Dead = 13

-- this stage, or one after it
abbrev pub IsStageFrom : PassName → PassName → Type 0
IsStageFrom k k' = place k ≤ place k'

-- The passes after the stage k make of g this program, up to a further stage.
pub data ComesOfStage (k : PassName) (g : Program) : PassName → Program → Type 0 where
  the_same : ComesOfStage k g k g
  by_one_more : {k' : PassName} {h h' : Program} → ComesOfStage k g (before k') h
      → pass_relation k' h h'
      → ComesOfStage k g k' h'

-- a stage of updates of which the stage of h at k comes
pub record ComesOfUpdateStage (g : Program) (k : PassName) (h : Program) : Type 0 where
  pub updated : Program
  pub stage : IsOptimised g Update updated
  pub comes : ComesOfStage Update updated k h

-- At the stage of a pass and at every later one: no eval and no apply, from the inlining on; no
-- node variable, from vectorising on; no fetch of a whole node, from the splitting of fetches on;
-- and no more updates without a literal tag than the stage of updates has. Up to simplifying, of
-- which the splitting of fetches takes the programs, no word is fetched by itself.
pub record WhatIsOutStaysOut : Type 0 where
  pub inlined : (g h : Program) (k : PassName) → IsFirstPassInput g
      → IsOptimised g k h → IsInlined h
  pub vectorised : (g h : Program) (k : PassName) → IsStageFrom Vectorise k → IsOptimised g k h
      → IsVectorised h
  pub whole_fetches : (g h : Program) (k : PassName) → IsFirstPassInput g → IsStageFrom k Simplify
      → IsOptimised g k h → HasNoWordFetches h
  pub by_words : (g h : Program) (k : PassName) → IsStageFrom Fetch k → IsOptimised g k h
      → IsFetchedByWords h
  pub from_updates : (g h : Program) (k : PassName) → IsStageFrom Update k → IsOptimised g k h
      → ComesOfUpdateStage g k h
  pub updates : (g h : Program) (k : PassName) → ComesOfStage Update g k h
      → updates_with_variable_tag h ≤ updates_with_variable_tag g
