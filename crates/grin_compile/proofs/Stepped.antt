-- Stages that passes make, one after another, and what the layers below ask of them.
use Rattle.std.proofs.Common.{◌≡◌, ℕ, zero, suc, List, [], ◌∷◌, drop, Some, slice_get, subst, arith, rules}
use Rattle.arity_check.specs.Program as core
use Rattle.grin_syntax.specs.Tree.{Program}
use Rattle.grin_syntax.specs.Formed.{AllOf, Formed}
use Rattle.grin_syntax.specs.SameOutside.{DifferOnlyInBodies}
use Rattle.grin_meaning.specs.Keeps.{Keeps}
use Rattle.grin_meaning.proofs.Kept.{keeps_again}
use Rattle.grin_translate.specs.Translation.{tr}
use Rattle.pass_ground.specs.Vectors.{IsVectorForm, NarrowTargets}
use Rattle.stage_names.specs.declared.PassName.{PassName}
use Rattle.stage_names.specs.declared.PassName.TheVariants.{Simplify}
use Rattle.grin_opt.specs.Schedule.{IsFirstPassInput, pass_relation}
use Rattle.grin_opt.specs.Staying.{IsStageFrom}
use Rattle.grin_opt.proofs.Gives.{gives}
use Rattle.grin_compile.specs.Passed.{AreResultsOfPasses}
use Rattle.grin_compile.specs.Stages.{passes, AreStages}
use Rattle.grin_compile.proofs.Narrow.{narrow}
use Rattle.pass_ground.proofs.Vectors.{outside_again}

pub in_all : (P : Program → Type 0) (hs : List Program) (k : ℕ) (h : Program) → AllOf P hs
    → slice_get hs k ≡ Some h → P h
in_all P [] k h all there = cc
in_all P (x ∷ hs) zero h all there = let e : x ≡ h = cc in subst P e all.0
in_all P (x ∷ hs) (suc k) h all there = in_all P hs k h all.1 there

pub are_stages : (p : core.Program) (ks : List PassName) (g : Program) (hs : List Program)
    → Keeps (tr p) g → AreResultsOfPasses ks g hs → AreStages p ks g hs
are_stages p [] g [] kept passed = tt
are_stages p [] g (h ∷ hs) kept passed = absurd passed
are_stages p (k ∷ ks) g [] kept passed = absurd passed
are_stages p (k ∷ ks) g (h ∷ hs) kept passed =
    let keeps = keeps_again (tr p) g h kept passed.0.keeps in
    (keeps, (passed.0.shape, are_stages p ks h hs keeps passed.1))

-- what the layers below ask of a stage
pub record CanBeLowered (a h : Program) : Type 0 where
  pub of_vectors : IsVectorForm h
  pub narrow : NarrowTargets 14 h
  pub outside : DifferOnlyInBodies a h

next : (k : PassName) (a g h : Program) → IsStageFrom Simplify k → pass_relation k g h
    → CanBeLowered a g → CanBeLowered a h
next k a g h from shape can =
    let given = gives k g h shape in
    record {
      of_vectors = given.of_vectors;
      narrow = given.narrow from 14 (omega arith) can.narrow;
      outside = outside_again a g h can.outside given.outside;
    }

all_next : (p : core.Program) (ks : List PassName) (a g : Program) (hs : List Program)
    → AllOf (IsStageFrom Simplify) ks → CanBeLowered a g → AreStages p ks g hs
    → AllOf (CanBeLowered a) hs
all_next p [] a g [] from can are = tt
all_next p [] a g (h ∷ hs) from can are = absurd are
all_next p (k ∷ ks) a g [] from can are = absurd are
all_next p (k ∷ ks) a g (h ∷ hs) from can are = let here = next k a g h from.0 are.1.0 can
    in (here, all_next p ks a h hs from.1 here are.1.1)

-- the passes after the first one
all_later : AllOf (IsStageFrom Simplify) (drop 1 passes)
all_later = search rules

pub can_be_lowered : (p : core.Program) (a : Program) → IsFirstPassInput a → (hs : List Program)
    → AreStages p passes a hs → AllOf (CanBeLowered a) hs
can_be_lowered p a taken [] are = absurd are
can_be_lowered p a taken (h ∷ hs) are =
    let wide = are.1.0 in
    let first : CanBeLowered a h = record {
      of_vectors = record
          { formed = wide.formed; ready = wide.ready; vectorised = wide.vectorised };
      narrow = narrow a h taken.1 taken.2 wide;
      outside = wide.outside;
    } in
    (first, all_next p (drop 1 passes) a h hs all_later first are.1.1)

pub all_formed : (a : Program) (hs : List Program) → AllOf (CanBeLowered a) hs → AllOf Formed hs
all_formed a [] all = tt
all_formed a (h ∷ hs) all = (all.0.of_vectors.formed, all_formed a hs all.1)
