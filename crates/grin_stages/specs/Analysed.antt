-- What the functions inside the crate have made of a program.
use Rattle.std.specs.Prelude.{◌≡◌, ◌≢◌}
use Rattle.arity_check.specs.Program.{Program}
use Rattle.grin_syntax.specs.Tree as grin
use Rattle.grin_syntax.specs.Tree.{program_of}
use Rattle.grin_syntax.specs.Formed.{Formed}
use Rattle.grin_meaning.specs.Keeps.{Keeps}
use Rattle.points_to.specs.Found.{found}
use Rattle.inline_theory.specs.Analysed.{IsAnalysed}
use Rattle.grin_translate.specs.Translation.{tr}
use Rattle.stage_names.specs.declared.PassName.{PassName}
use Rattle.stage_names.specs.declared.PassName.TheVariants.{Translate}
use Rattle.grin_stages.specs.declared.pipeline.Analysis.{Analysis}
use Rattle.grin_stages.specs.Stage.{IsLeastOfTranslation, IsStage, Fits}
use Rattle.grin_meaning.specs.Looking.{NeverMissing}

-- the translation, with the least solution of its flow system, of a program that is not too large
pub record IsAnalysisOf (p : Program) (a : Analysis) : Type 0 where
  pub is_translation : program_of a.translation ≡ tr p
  pub least : IsLeastOfTranslation p (found a.flow)
  pub analysed : IsAnalysed (found a.flow) (tr p)
  pub never_missing : NeverMissing (tr p)
  pub fits : Fits p

-- a stage, which is well formed and does what the translation does, of a program that is not too
-- large where it is after the translation
pub record IsSoundStage (p : Program) (upto : PassName) (g : grin.Program) : Type 0 where
  pub made : IsStage p upto g
  pub formed : Formed g
  pub meaning : Keeps (tr p) g
  pub fits : upto ≢ Translate → Fits p
