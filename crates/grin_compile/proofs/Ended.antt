-- What a program ends in after all passes, of which no stage is kept.
use Rattle.std.proofs.Common.{◌≡◌, ◌≢◌, Bool, true, false, ℕ, zero, suc, ◌-◌, ◌<◌, List, [], ◌∷◌, length, Some, slice_get, refl, ap, subst, arith}
use Rattle.arity_check.specs.Program as core
use Rattle.grin_syntax.specs.Tree.{Program}
use Rattle.grin_meaning.specs.Keeps.{Keeps}
use Rattle.grin_meaning.proofs.Kept.{keeps_again}
use Rattle.grin_translate.specs.Translation.{tr}
use Rattle.stage_names.specs.declared.PassName.{PassName}
use Rattle.stage_names.specs.declared.PassName.TheVariants.{Translate, Apply}
use Rattle.grin_opt.specs.Schedule.{IsPass, before, pass_relation, IsOptimised, itself, by_pass}
use Rattle.arity_check.specs.Accepted.{IsValid}
use Rattle.vectorised_form.specs.Laws.{VectoriseTakesInlined}
use Rattle.grin_measure.specs.declared.measure.Sizes.{Sizes}
use Rattle.grin_measure.specs.Within.{HasSizes}
use Rattle.grin_stages.specs.Stage.{IsStage, Fits, ExpandedSizeIsUnique, ExceedsSizeLimit, StageExceedsLimit}
use Rattle.grin_stages.specs.declared.refusal.CompileRefusal.{CompileRefusal}
use Rattle.grin_stages.specs.declared.refusal.CompileRefusal.TheVariants.{ExpandedTooLarge, Memory}
use Rattle.grin_compile.specs.Parts.{HasLast}
use Rattle.grin_compile.specs.Passed.{FollowStage, SlimBeside}
use Rattle.grin_compile.specs.Stages.{passes, AreStages, IsLastStageWith}
use Rattle.grin_compile.proofs.Passed.{last_pass, all_follow, as_many}
use Rattle.grin_compile.proofs.Staged.{has_last}

-- what a program of a stage was made of by the stage's pass
record IsNext (a : Program) (k : PassName) (h : Program) : Type 0 where
  pub of : Program
  pub up_to : IsOptimised a (before k) of
  pub shape : pass_relation k of h
  pub keeps : Keeps a h

is_next : (a : Program) (k : PassName) (h : Program) → IsPass k → IsOptimised a k h → IsNext a k h
is_next a k h pass itself = absurd pass
is_next a k h pass (by_pass {h = g} up_to shape keeps)
    = record { of = g; up_to = up_to; shape = shape; keeps = keeps }

-- the stages from one of these stages to a program
record Between (p : core.Program) (a : Program) (b : PassName) (ks : List PassName) (h : Program)
    : Type 0 where
  pub first : Program
  pub up_to : IsOptimised a b first
  pub stages : List Program
  pub are : AreStages p ks first stages
  pub there : slice_get (first ∷ stages) (length ks) ≡ Some h

between : (p : core.Program) (a : Program) → Keeps (tr p) a
    → (b : PassName) (ks : List PassName) (h : Program) → FollowStage b ks
    → IsOptimised a (last_pass b ks) h → Between p a b ks h
between p a kept b [] h follow up_to = record
    { first = h; up_to = up_to; stages = []; are = tt; there = refl }
between p a kept b (k ∷ ks) h follow up_to =
    let rest = between p a kept k ks h follow.1.1 up_to in
    let made = is_next a k rest.first follow.0 rest.up_to in
    record {
      first = made.of;
      up_to = subst (λ k. IsOptimised a k made.of) follow.1.0 made.up_to;
      stages = rest.first ∷ rest.stages;
      are = (keeps_again (tr p) a rest.first kept made.keeps, (made.shape, rest.are));
      there = rest.there;
    }

is_itself : (a : Program) (k : PassName) (g : Program) → IsOptimised a k g → k ≡ Apply → g ≡ a
is_itself a k g itself e = refl
is_itself a k g (by_pass {h = f} up_to shape keeps) e
    = absurd (subst (λ k. pass_relation k f g) e shape)

-- ---- the stages after a program, of which this is the last one

pub record EndsIn (p : core.Program) (a h : Program) : Type 0 where
  pub stages : List Program
  pub are : AreStages p passes a stages
  pub there : slice_get stages (length passes - 1) ≡ Some h

pub ends_in : (p : core.Program) (a h : Program) → Keeps (tr p) a
    → IsOptimised a (last_pass Apply passes) h → EndsIn p a h
ends_in p a h kept made =
    let all = between p a kept Apply passes h all_follow made in
    record {
      stages = all.stages;
      are = subst (λ g. AreStages p passes g all.stages)
          (is_itself a Apply all.first all.up_to refl) all.are;
      there = all.there;
    }

is_within : (hs : List Program) (k : ℕ) (h : Program) → slice_get hs k ≡ Some h → k < length hs
is_within [] k h there = cc
is_within (x ∷ hs) zero h there = omega arith
is_within (x ∷ hs) (suc k) h there = omega (arith, is_within hs k h there)

-- behind it there is none
last_one : (Asked : Program → Type 0) (p : core.Program) (a h : Program) → (ends : EndsIn p a h)
    → Asked h → IsLastStageWith Asked ends.stages h
last_one Asked p a h ends asked = record {
  at = length passes - 1;
  there = ends.there;
  slim = asked;
  last = λ k g more there also.
      absurd (omega
      (arith, more, as_many p passes a ends.stages ends.are, is_within ends.stages k g there));
}

abbrev pub stages_to : (p : core.Program) (a h : Program) → Keeps (tr p) a
    → IsOptimised a (last_pass Apply passes) h → List Program
stages_to p a h kept made = (ends_in p a h kept made).stages

-- where it is slim, it is the last slim one
pub ended : (one : ExpandedSizeIsUnique) (p : core.Program) (fits : Fits p) (a : Program)
    (stage : IsStage p Apply a) (s : Sizes) → HasSizes a s → VectoriseTakesInlined → IsValid p
    → (kept : Keeps (tr p) a) (h : Program) (made : IsOptimised a (last_pass Apply passes) h)
    → SlimBeside s h → HasLast p a (stages_to p a h kept made) h
ended one p fits a stage s sizes taken valid kept h made slim =
    let ends = ends_in p a h kept made in
    has_last one p fits a stage s sizes taken valid ends.stages ends.are h
    (last_one (SlimBeside s) p a h ends slim)

abbrev is_translate : PassName → Bool
is_translate Translate = true
is_translate _ = false

pub is_not_translate : Apply ≢ Translate
is_not_translate e = let c : false ≡ true = ap is_translate e in absurd cc

-- ---- refusals

pub is_large : (p : core.Program) (k : PassName) (refusal : CompileRefusal)
    → StageExceedsLimit p k refusal → ExceedsSizeLimit p refusal
is_large p k (ExpandedTooLarge size) h = (h.1, h.2)
is_large p k (Memory e) h = h
