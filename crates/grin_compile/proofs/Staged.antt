-- The stages of a program, and the last of them, of which code can be made.
use Rattle.std.proofs.Common.{◌≡◌, ℕ, ◌≤◌, List, [], ◌∷◌, length, Some, slice_get, refl, sym, ap, ◌∙◌, subst, arith}
use Rattle.arity_check.specs.Accepted.{IsValid}
use Rattle.arity_check.specs.Program as core
use Rattle.grin_syntax.specs.Tree.{Program}
use Rattle.grin_syntax.specs.Formed.{AllOf, Formed}
use Rattle.grin_syntax.specs.SameOutside.{DifferOnlyInBodies}
use Rattle.grin_meaning.specs.Keeps.{Keeps}
use Rattle.grin_meaning.specs.Slim.{Slim}
use Rattle.flow_system.specs.Solution.{Solution}
use Rattle.inline_theory.specs.Applications.{inlined, inlined_size}
use Rattle.inline_theory.specs.Size.{size, largest_procedure}
use Rattle.vectorised_form.specs.Laws.{VectoriseTakesInlined}
use Rattle.grin_measure.specs.declared.measure.Sizes.{Sizes}
use Rattle.grin_measure.specs.Within.{HasSizes}
use Rattle.grin_translate.specs.Translation.{tr}
use Rattle.stage_names.specs.declared.PassName.{PassName}
use Rattle.stage_names.specs.declared.PassName.TheVariants.{Apply, Vectorise}
use Rattle.grin_opt.specs.Schedule.{IsFirstPassInput, pass_relation}
use Rattle.grin_stages.specs.Stage.{IsLeastOfTranslation, IsStage, translated, evaluations_inlined, both_inlined, by_pass, Fits, ExpandedSizeIsUnique, VectorisedIsSlim}
use Rattle.grin_compile.specs.Parts.{HasLast}
use Rattle.grin_compile.specs.Passed.{SlimBeside}
use Rattle.grin_compile.specs.Stages.{passes, AreStages, IsLastStageWith, IsLastSlim}
use Rattle.translated_form.proofs.Limits.{valid_is_limited}
use Rattle.grin_compile.proofs.Sizes.{as_many_procs, few_procs, few_globals, largest_is_small}
use Rattle.grin_compile.proofs.Stepped.{CanBeLowered, can_be_lowered, in_all, all_formed}

-- the solution by which a stage is inlined
pub record InlinedBy (p : core.Program) (a : Program) : Type 0 where
  pub solution : Solution
  pub least : IsLeastOfTranslation p solution
  pub is : a ≡ inlined solution (tr p)

pub inlined_by : (p : core.Program) (k : PassName) (a : Program) → IsStage p k a → k ≡ Apply
    → InlinedBy p a
inlined_by p k a translated e = cc
inlined_by p k a (evaluations_inlined least) e = cc
inlined_by p k a (both_inlined {A = A} least) e = record { solution = A; least = least; is = refl }
inlined_by p k a (by_pass {g = b} stage shape keeps) e
    = absurd (subst (λ k. pass_relation k b a) e shape)

-- the passes after the inlining take the inlined program
pub taken_by : VectoriseTakesInlined → (p : core.Program) → IsValid p → (a : Program)
    → IsStage p Apply a → IsFirstPassInput a
taken_by taken p valid a stage = let by = inlined_by p Apply a stage refl
    in subst IsFirstPassInput (sym by.is) (taken p valid by.solution by.least.solves)

-- each stage after the inlining is well formed
pub later_formed : VectoriseTakesInlined → (p : core.Program) → IsValid p → (a : Program)
    → IsStage p Apply a → (hs : List Program) → AreStages p passes a hs → AllOf Formed hs
later_formed taken p valid a stage hs are = all_formed a hs
    (can_be_lowered p a (taken_by taken p valid a stage) hs are)

-- the sizes of a program that is not too large are as they were measured
record AreMeasured (a : Program) (s : Sizes) : Type 0 where
  pub program : s.program ≡ size a
  pub largest : s.largest ≡ largest_procedure a

measured : (a : Program) (s : Sizes) → HasSizes a s → size a ≤ 131072 → AreMeasured a s
measured a s has small =
    let program = has.program in let largest = has.largest in
    record {
      program = omega arith;
      largest = omega
          (arith, program, largest, small, largest_is_small a);
    }

small_once : ExpandedSizeIsUnique → (p : core.Program) → Fits p → (A : Solution)
    → IsLeastOfTranslation p A → inlined_size A (tr p) ≤ 131072
small_once one p fits A least =
    subst (λ n. n ≤ 131072)
    (one p fits.size (inlined_size A (tr p)) fits.expanded
    (record { solution = A; least = least; is_size = refl })) fits.small

module _ (one : ExpandedSizeIsUnique) (p : core.Program) (fits : Fits p) (a : Program)
    (stage : IsStage p Apply a) (s : Sizes) (sizes : HasSizes a s) where
  by : InlinedBy p a
  by = inlined_by p Apply a stage refl

  abbrev A : Solution
  A = by.solution

  small : inlined_size A (tr p) ≤ 131072
  small = small_once one p fits A by.least

  are_measured : AreMeasured a s
  are_measured = measured a s sizes (subst (λ g. size g ≤ 131072) (sym by.is) small)

  program_is : s.program ≡ inlined_size A (tr p)
  program_is = are_measured.program ∙ ap size by.is

  largest_is : s.largest ≡ largest_procedure (inlined A (tr p))
  largest_is = are_measured.largest ∙ ap largest_procedure by.is

  pub small_program : s.program ≤ 131072
  small_program = subst (λ n. n ≤ 131072) (sym program_is) small

  pub small_largest : s.largest ≤ 131072
  small_largest = omega (arith, largest_is, small, largest_is_small (inlined A (tr p)))

  -- slim beside the sizes that were measured, and beside those of the inlined program
  abbrev Beside : (size largest : ℕ) → Program → Type 0
  Beside n m g = Slim n m g

  vectors_are_slim : VectorisedIsSlim → (h : Program) → pass_relation Vectorise a h → Keeps (tr p) h
      → SlimBeside s h
  vectors_are_slim slim h shape keeps =
      subst (λ n. Slim n s.largest h) (sym program_is)
      (subst (λ m. Slim (inlined_size A (tr p)) m h) (sym largest_is)
      (slim p h (by_pass {k = Vectorise} stage shape keeps) A by.least))

  -- the first stage is slim
  pub first_is_slim : VectorisedIsSlim → (hs : List Program) → AreStages p passes a hs
      → (g : Program) → slice_get hs 0 ≡ Some g → SlimBeside s g
  first_is_slim slim [] are g there = absurd are
  first_is_slim slim (h ∷ hs) are g there = let e : h ≡ g = cc
      in subst (SlimBeside s) e (vectors_are_slim slim h are.1.0 are.0)

  -- the last slim one of the stages can be lowered
  module _ (taken : VectoriseTakesInlined) (valid : IsValid p) (hs : List Program)
      (are : AreStages p passes a hs) (g : Program) (last : IsLastStageWith (SlimBeside s) hs g)
    where
      all : AllOf (CanBeLowered a) hs
      all = can_be_lowered p a (taken_by taken p valid a stage) hs are

      is_last_slim : IsLastSlim p A hs g
      is_last_slim =
          subst (λ n. IsLastStageWith (Beside n (largest_procedure (inlined A (tr p)))) hs g)
          program_is
          (subst (λ m. IsLastStageWith (Beside s.program m) hs g) largest_is last)

      pub has_last : HasLast p a hs g
      has_last =
          let can = in_all (CanBeLowered a) hs last.at g all last.there in
          let outside : DifferOnlyInBodies (inlined A (tr p)) g
          = subst (λ b. DifferOnlyInBodies b g) by.is can.outside in
          record {
            solution = A;
            least = by.least;
            applied = by.is;
            fits = small;
            stages = subst (λ b. AreStages p passes b hs) by.is are;
            last = is_last_slim;
            lowerable = record {
              formed = can.of_vectors.formed;
              ready = can.of_vectors.ready;
              vectorised = can.of_vectors.vectorised;
              narrow = can.narrow;
              size = inlined_size A (tr p);
              largest = largest_procedure (inlined A (tr p));
              slim = is_last_slim.slim;
              fits = small;
              largest_fits = largest_is_small (inlined A (tr p));
              few_procs = omega (
                arith,
                as_many_procs (inlined A (tr p)) g outside,
                few_procs (inlined A (tr p)).procs,
              );
              few_globals = omega (
                arith,
                ap length outside.same_globals,
                few_globals p p.funs 0,
                (valid_is_limited p valid).few_functions,
              );
            };
          }
