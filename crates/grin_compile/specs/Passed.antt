-- What the passes after the inlining make of a program.
use Rattle.std.specs.Prelude.{◌≡◌, ℕ, ◌-◌, List, [], ◌∷◌, length, get_or, map}
use Rattle.grin_syntax.specs.Tree.{Program, program_of}
use Rattle.grin_meaning.specs.Slim.{Slim}
use Rattle.grin_measure.specs.declared.measure.Sizes.{Sizes}
use Rattle.stage_names.specs.declared.PassName.{PassName}
use Rattle.grin_opt.specs.Schedule.{IsPass, before, IsPassResult}
use Rattle.grin_compile.specs.declared.stages.Stages.{Stages}

-- each of these passes takes the stage of the one before, and the first one this stage
abbrev pub FollowStage : PassName → List PassName → Type 0
FollowStage b [] = Unit {0}
FollowStage b (k ∷ ks) = IsPass k × ((before k ≡ b) × FollowStage k ks)

-- what passes make of g, one after another
abbrev pub AreResultsOfPasses : List PassName → Program → List Program → Type 0
AreResultsOfPasses [] g [] = Unit {0}
AreResultsOfPasses (k ∷ ks) g (h ∷ hs) = IsPassResult k g h × AreResultsOfPasses ks h hs
AreResultsOfPasses _ g _ = ⊥

-- the last of these programs after g, or g itself where there is none
abbrev pub last_program : Program → List Program → Program
last_program g hs = get_or hs (length hs - 1) g

-- the program at a place after the inlining, and the inlined program where there is none
abbrev pub later_stage : Stages → ℕ → Program
later_stage s i = get_or (map program_of s.later.items) i (program_of s.applied)

-- slim beside a program of these sizes
abbrev pub SlimBeside : Sizes → Program → Type 0
SlimBeside s g = Slim s.program s.largest g
