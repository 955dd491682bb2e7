-- The stages after the inlining, and the last one of which code can be made.
use Rattle.std.specs.Prelude.{◌≡◌, ℕ, ◌<◌, List, [], ◌∷◌, Some, slice_get}
use Rattle.arity_check.specs.Program as core
use Rattle.grin_syntax.specs.Tree.{Program}
use Rattle.grin_meaning.specs.Keeps.{Keeps}
use Rattle.grin_meaning.specs.Slim.{Slim}
use Rattle.flow_system.specs.Solution.{Solution}
use Rattle.inline_theory.specs.Applications.{inlined, inlined_size}
use Rattle.inline_theory.specs.Size.{largest_procedure}
use Rattle.grin_translate.specs.Translation.{tr}
use Rattle.stage_names.specs.declared.PassName.{PassName}
use Rattle.stage_names.specs.declared.PassName.TheVariants.{Vectorise, Simplify, Fetch, Copy, Update, Unbox, Raise, Flat, Known, Cells, Dead}
use Rattle.grin_opt.specs.Schedule.{pass_relation}

-- the passes after the inlining, in their order
abbrev pub passes : List PassName
passes = Vectorise ∷ Simplify ∷ Fetch ∷ Copy ∷ Update ∷ Unbox ∷ Raise ∷ Flat ∷ Known ∷ Cells
    ∷ Dead ∷ []

-- stages after g, one for each of these passes: each has the shape of its pass for the one before
-- it, and does what the translation does
abbrev pub AreStages : core.Program → List PassName → Program → List Program → Type 0
AreStages p [] g [] = Unit {0}
AreStages p (k ∷ ks) g (h ∷ hs) = Keeps (tr p) h × (pass_relation k g h × AreStages p ks h hs)
AreStages p _ g _ = ⊥

-- slim beside the program that the inlining by A gives
abbrev pub IsSlim : core.Program → Solution → Program → Type 0
IsSlim p A g = Slim (inlined_size A (tr p)) (largest_procedure (inlined A (tr p))) g

-- the last of these stages that is as is asked
pub record IsLastStageWith (Asked : Program → Type 0) (stages : List Program) (g : Program)
    : Type 0 where
  pub at : ℕ
  pub there : slice_get stages at ≡ Some g
  pub slim : Asked g
  pub last : (k : ℕ) (h : Program) → at < k → slice_get stages k ≡ Some h → Asked h → ⊥

abbrev pub IsLastSlim : core.Program → Solution → (stages : List Program) → Program → Type 0
IsLastSlim p A stages g = IsLastStageWith (IsSlim p A) stages g
