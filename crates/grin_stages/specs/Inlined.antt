-- The stages up to the inlining of applications.
use Rattle.std.specs.Prelude.{[], ◌∷◌}
use Rattle.arity_check.specs.Program.{Program}
use Rattle.grin_syntax.specs.Tree.{program_of}
use Rattle.grin_syntax.specs.Formed.{AllOf, Formed}
use Rattle.grin_meaning.specs.Keeps.{Keeps}
use Rattle.grin_translate.specs.Translation.{tr}
use Rattle.stage_names.specs.declared.PassName.TheVariants.{Translate, Eval, Apply}
use Rattle.grin_stages.specs.declared.inlined.InlinedStages.{InlinedStages}
use Rattle.grin_stages.specs.Stage.{IsStage}

-- each is the stage of its name and well formed, and the last one does what the translation does
pub record AreInlined (p : Program) (s : InlinedStages) : Type 0 where
  pub translated : IsStage p Translate (program_of s.translated)
  pub evaluated : IsStage p Eval (program_of s.evaluated)
  pub applied : IsStage p Apply (program_of s.applied)
  pub formed :
      AllOf Formed (program_of s.translated ∷ program_of s.evaluated ∷ program_of s.applied ∷ [])
  pub meaning : Keeps (tr p) (program_of s.applied)
