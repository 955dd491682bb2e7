-- What a compiled program holds.
use Rattle.std.specs.Prelude.{◌≡◌, ◌-◌, ℕ, List, ◌∷◌, map}
use Rattle.arity_check.specs.Program as core
use Rattle.grin_syntax.specs.Tree as grin
use Rattle.grin_syntax.specs.Tree.{program_of}
use Rattle.grin_syntax.specs.Formed.{AllOf, Formed}
use Rattle.grin_syntax.specs.SameOutside.{names_of}
use Rattle.flow_system.specs.Solution.{Solution}
use Rattle.inline_theory.specs.Applications.{inlined}
use Rattle.grin_translate.specs.Translation.{tr}
use Rattle.stage_names.specs.declared.PassName.{PassName}
use Rattle.stage_names.specs.declared.PassName.TheVariants.{Translate, Eval, Apply, Vectorise}
use Rattle.grin_opt.specs.Staying.{place}
use Rattle.grin_stages.specs.Stage.{IsLeastOfTranslation, IsStage}
use Rattle.low_code.specs.Tree as low
use Rattle.grin_compile.specs.declared.compilation.Compiled.{Compiled}
use Rattle.grin_compile.specs.Passed.{later_stage}
use Rattle.grin_compile.specs.Stages.{passes, AreStages, IsLastSlim}
use Rattle.grin_compile.specs.Made.{IsImageOf}
use Rattle.grin_compile.specs.Provenance.{IsMadeThrough}

-- the program after a stage
abbrev pub after : Compiled → PassName → grin.Program
after c Translate = program_of c.stages.translated
after c Eval = program_of c.stages.evaluated
after c Apply = program_of c.stages.applied
after c k = later_stage c.stages (place k - place Vectorise)

-- the stages after the inlining
abbrev pub later : Compiled → List grin.Program
later c = map (after c) passes

-- the stages of p, each well formed; an image that is made of the last one that is slim; its code,
-- which is made of the low code with its variables at the places; and of each procedure the address
-- at which it starts, the name, and the words of its frame
pub record IsCompilation (p : core.Program) (cells stack : ℕ) (c : Compiled) : Type 0 where
  pub translated : IsStage p Translate (after c Translate)
  pub evaluated : IsStage p Eval (after c Eval)
  pub solution : Solution
  pub least : IsLeastOfTranslation p solution
  pub applied : after c Apply ≡ inlined solution (tr p)
  pub stages : AreStages p passes (after c Apply) (later c)
  pub formed_stages :
      AllOf Formed (after c Translate ∷ after c Eval ∷ after c Apply ∷ later c)
  pub g : grin.Program
  pub last : IsLastSlim p solution (later c) g
  pub names : c.names.items ≡ names_of g.procs
  pub frames : c.frames.items ≡ c.places.frames
  pub image :
      IsImageOf p solution g (low.program_of c.low) c.places.frames cells stack
      c.code.items c.starts.items c.image.items
  pub through :
      IsMadeThrough p solution g (low.program_of c.low) c.places cells stack
      c.code.items c.starts.items
