-- The stages of a program in GRIN.
use Rattle.std.specs.Prelude.{◌≡◌, ◌≢◌, ◌<◌, ◌≤◌, ℕ}
use Rattle.arity_check.specs.Program.{Program}
use Rattle.grin_syntax.specs.Tree as grin
use Rattle.grin_meaning.specs.Keeps.{Keeps}
use Rattle.grin_meaning.specs.Slim.{Slim}
use Rattle.flow_system.specs.Tables.{tables}
use Rattle.flow_system.specs.System.{system}
use Rattle.flow_system.specs.Solution.{Solution, IsLeast}
use Rattle.inline_theory.specs.Evaluations.{eval_inlined}
use Rattle.inline_theory.specs.Applications.{inlined, inlined_size}
use Rattle.inline_theory.specs.Size.{largest_procedure}
use Rattle.grin_translate.specs.Translation.{tr}
use Rattle.stage_names.specs.declared.PassName.{PassName}
use Rattle.stage_names.specs.declared.PassName.TheVariants.{Translate, Eval, Apply, Vectorise}
use Rattle.grin_opt.specs.Schedule.{before, pass_relation}
use Rattle.grin_stages.specs.declared.refusal.CompileRefusal.{CompileRefusal}
use Rattle.grin_stages.specs.declared.refusal.CompileRefusal.TheVariants.{ExpandedTooLarge, Memory}
use Rattle.limits.specs.Limits.{largest_program}

-- the least solution of the translation's flow system
abbrev pub IsLeastOfTranslation : Program → Solution → Type 0
IsLeastOfTranslation p A = IsLeast (tables (tr p)) (system (tr p)) A

-- The translation; then its evaluations are inlined by the least solution, and then its
-- applications too. The stage of a later pass has that pass's shape beside the stage before, and
-- does what the translation does.
pub data IsStage (p : Program) : PassName → grin.Program → Type 0 where
  translated : IsStage p Translate (tr p)
  evaluations_inlined : {A : Solution} → IsLeastOfTranslation p A
      → IsStage p Eval (eval_inlined A (tr p))
  both_inlined : {A : Solution} → IsLeastOfTranslation p A → IsStage p Apply (inlined A (tr p))
  by_pass : {k : PassName} {g h : grin.Program} → IsStage p (before k) g
      → pass_relation k g h → Keeps (tr p) h → IsStage p k h

-- the size of the program once both are inlined
pub record HasExpandedSize (p : Program) (size : ℕ) : Type 0 where
  pub solution : Solution
  pub least : IsLeastOfTranslation p solution
  pub is_size : size ≡ inlined_size solution (tr p)

-- rule 36 is not broken
pub record Fits (p : Program) : Type 0 where
  pub size : ℕ
  pub expanded : HasExpandedSize p size
  pub small : size ≤ largest_program

-- rule 36 is broken, at this size
abbrev pub ExceedsSizeLimit : Program → CompileRefusal → Type 0
ExceedsSizeLimit p (ExpandedTooLarge size) = HasExpandedSize p size × (largest_program < size)
ExceedsSizeLimit p (Memory e) = Unit {0}

-- the stage is after the translation, and rule 36 is broken
abbrev pub StageExceedsLimit : Program → PassName → CompileRefusal → Type 0
StageExceedsLimit p upto (ExpandedTooLarge size) =
    (upto ≢ Translate) × HasExpandedSize p size × (largest_program < size)
StageExceedsLimit p upto (Memory e) = Unit {0}

-- a program has one expanded size, so it can't both fit and be too large
abbrev pub ExpandedSizeIsUnique : Type 0
ExpandedSizeIsUnique =
    (p : Program) (size size' : ℕ) → HasExpandedSize p size → HasExpandedSize p size' → size ≡ size'

-- the stages up to the inlining of applications, each of which is given by a function
abbrev pub UpToInlining : PassName → Type 0
UpToInlining Translate = Unit {0}
UpToInlining Eval = Unit {0}
UpToInlining Apply = Unit {0}
UpToInlining _ = ⊥

-- each of these stages is one program
abbrev pub StageIsUnique : Type 0
StageIsUnique =
    (p : Program) (upto : PassName) (g h : grin.Program) → UpToInlining upto
    → IsStage p upto g → IsStage p upto h → g ≡ h

-- the stage of vectorising is small for the back end, beside the size of the inlined program and
-- that of its largest procedure
abbrev pub VectorisedIsSlim : Type 0
VectorisedIsSlim = (p : Program) (h : grin.Program) → IsStage p Vectorise h
    → (A : Solution) → IsLeastOfTranslation p A
    → Slim (inlined_size A (tr p)) (largest_procedure (inlined A (tr p))) h
