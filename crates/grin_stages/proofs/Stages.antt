-- Stages that the calls make.
use Rattle.std.proofs.Common.{◌≡◌, ◌<◌, ◌≤◌, ◌^◌, ℕ, List, refl, sym, ap, ◌∙◌, subst, arith}
use Rattle.arity_check.specs.Accepted.{IsValid}
use Rattle.arity_check.specs.Program.{Program}
use Rattle.grin_syntax.specs.Tree as grin
use Rattle.grin_syntax.specs.Formed.{Formed}
use Rattle.grin_meaning.specs.Keeps.{Keeps}
use Rattle.grin_meaning.proofs.Kept.{keeps_again}
use Rattle.flow_system.specs.Tables.{Tables, tables}
use Rattle.flow_system.specs.System.{system}
use Rattle.flow_system.specs.Inclusions.{Inclusion}
use Rattle.flow_system.specs.Solution.{Solution, IsLeast}
use Rattle.inline_theory.specs.Evaluations.{eval_inlined}
use Rattle.inline_theory.specs.Applications.{apply_inlined, inlined_size}
use Rattle.inline_theory.specs.Analysed.{IsAnalysed}
use Rattle.inline_theory.specs.Before.{IsEvalInlined}
use Rattle.grin_translate.specs.Translation.{tr}
use Rattle.translated_form.proofs.Limits.{valid_is_well_formed}
use Rattle.inlined_form.proofs.Readiness.{never_missing}
use Rattle.inlined_form.proofs.SizesFit.{sizes_fit}
use Rattle.vectorised_form.specs.Laws.{VectoriseTakesInlined}
use Rattle.stage_names.specs.declared.PassName.{PassName}
use Rattle.stage_names.specs.declared.PassName.TheVariants.{Translate, Eval, Apply}
use Rattle.grin_opt.specs.Schedule.{IsPass, IsFirstPassInput, pass_relation, before, IsOptimised, itself, by_pass}
use Rattle.grin_opt.proofs.Gives.{gives}
use Rattle.grin_stages.specs.Stage.{IsLeastOfTranslation, IsStage, translated, evaluations_inlined, both_inlined, by_pass as next_stage, HasExpandedSize, Fits}
use Rattle.grin_stages.specs.Analysed.{IsSoundStage}
use Rattle.grin_meaning.specs.Looking.{NeverMissing}

-- the solution of a program's system
pub least_of : (g h : grin.Program) (t : Tables) (cs : List Inclusion) (A : Solution) → g ≡ h
    → t ≡ tables g → cs ≡ system g → IsLeast t cs A → IsLeast (tables h) (system h) A
least_of g h t cs A e f k l = subst (λ h. IsLeast (tables h) (system h) A) e
    (subst (λ cs. IsLeast (tables g) cs A) k (subst (λ t. IsLeast t cs A) f l))

-- the size that was found is that of the inlined translation
pub size_of : (p : Program) → IsValid p → (g : grin.Program) (A : Solution) (n : ℕ) → Formed (tr p)
    → g ≡ tr p → IsLeastOfTranslation p A →
    (Formed g → inlined_size A g < 2 ^ 64 → n ≡ inlined_size A g) → HasExpandedSize p n
size_of p c g A n formed e least h =
    let is : n ≡ inlined_size A (tr p) = subst
    (λ g. Formed g → inlined_size A g < 2 ^ 64 → n ≡ inlined_size A g) e h formed
    (sizes_fit p c A) in
    record { solution = A; least = least; is_size = is }

pub analysis_of : (p : Program) → IsValid p → (A : Solution) (n : ℕ) → Formed (tr p)
    → IsLeastOfTranslation p A → HasExpandedSize p n → n ≤ 131072
    → Fits p × IsAnalysed A (tr p) × NeverMissing (tr p)
analysis_of p c A n formed least expanded small = (
  record { size = n; expanded = expanded; small = small },
  record { formed = formed; solves = least.solves },
  never_missing p (valid_is_well_formed p c),
)

pub made_translation : (p : Program) (g : grin.Program) → Formed (tr p) → g ≡ tr p
    → IsSoundStage p Translate g
made_translation p g formed e = subst (IsSoundStage p Translate) (sym e)
    (record {
      made = translated;
      formed = formed;
      meaning
          = record {
            same_out = λ i n m. refl;
            same_used = λ i n m. refl;
            same_end
                = λ i n m. refl;
            no_more_cells = λ i n m. omega arith;
            no_deeper = λ i n m. omega arith;
          };
      fits
          = λ h. absurd (h refl);
    })

module _ (p : Program) (A : Solution) (g h : grin.Program) (is : g ≡ tr p)
    (least : IsLeastOfTranslation p A) (analysed : IsAnalysed A (tr p))
    (never : NeverMissing (tr p)) (fits : Fits p)
    (is-inlined : h ≡ eval_inlined A g) (formed : Formed g → Formed h)
    (keeps : IsAnalysed A g → Keeps g h) where
  evaluated : h ≡ eval_inlined A (tr p)
  evaluated = is-inlined ∙ ap (eval_inlined A) is

  formed_again : Formed h
  formed_again = formed (subst Formed (sym is) analysed.formed)

  kept : Keeps (tr p) h
  kept = subst (λ g. Keeps g h) is (keeps (subst (IsAnalysed A) (sym is) analysed))

  pub made_evaluations : IsSoundStage p Eval h
  made_evaluations = record {
    made = subst (IsStage p Eval) (sym evaluated) (evaluations_inlined least);
    formed
        = formed_again;
    meaning = kept;
    fits = λ _. fits;
  }

  pub before_applications : IsEvalInlined A h
  before_applications = record
      { before = tr p; analysed = analysed; never_missing = never; inlined = evaluated }

  pub made_applications : (k : grin.Program) → k ≡ apply_inlined A h → (Formed h → Formed k)
      → (IsEvalInlined A h → Keeps h k) → IsSoundStage p Apply k
  made_applications k e f m = record {
    made = subst (IsStage p Apply) (sym (e ∙ ap (apply_inlined A) evaluated)) (both_inlined least);
    formed = f formed_again;
    meaning = keeps_again (tr p) h k kept (m before_applications);
    fits = λ _. fits;
  }

-- the inlined program is one that the passes after the inlining take
pub taken : VectoriseTakesInlined → (p : Program) → IsValid p → (upto : PassName) (g : grin.Program)
    → upto ≡ Apply → IsStage p upto g → IsFirstPassInput g
taken law p valid upto g e (both_inlined {A = A} least) = law p valid A least.solves
taken law p valid upto g e translated = cc
taken law p valid upto g e (evaluations_inlined least) = cc
taken law p valid upto g e (next_stage {g = b} stage shape k)
    = absurd (subst (λ k. pass_relation k b g) e shape)

-- the stages that the passes after the inlining make
staged : (p : Program) (g h : grin.Program) (k : PassName) → IsStage p Apply g → Keeps (tr p) g
    → IsOptimised g k h → IsStage p k h
staged p g h k stage kept itself = stage
staged p g h k stage kept (by_pass {h = b} o shape keeps)
    = next_stage (staged p g b (before k) stage kept o) shape (keeps_again (tr p) g h kept keeps)

kept_by : (p : Program) (g h : grin.Program) (k : PassName) → Keeps (tr p) g → IsOptimised g k h
    → Keeps (tr p) h
kept_by p g h k kept itself = kept
kept_by p g h k kept (by_pass o shape keeps) = keeps_again (tr p) g h kept keeps

formed_by : (g h : grin.Program) (k : PassName) → Formed g → IsOptimised g k h → Formed h
formed_by g h k formed itself = formed
formed_by g h k formed (by_pass {h = b} o shape keeps) = (gives k b h shape).of_vectors.formed

pub made_after : (p : Program) (upto : PassName) (g h : grin.Program) → IsSoundStage p Apply g
    → IsOptimised g upto h → IsSoundStage p upto h
made_after p upto g h made o = record {
  made = staged p g h upto made.made made.meaning o;
  formed = formed_by g h upto made.formed o;
  meaning = kept_by p g h upto made.meaning o;
  fits = λ _. made.fits (λ e. cc);
}

-- what a stage of a pass comes from
pub record FromPass (p : Program) (k : PassName) (h : grin.Program) : Type 0 where
  pub g : grin.Program
  pub stage : IsStage p (before k) g
  pub shape : pass_relation k g h
  pub keeps : Keeps (tr p) h

pub from_pass : (p : Program) (k : PassName) (h : grin.Program) → IsPass k → IsStage p k h
    → FromPass p k h
from_pass p k h has (next_stage {g = g} stage shape keeps)
    = record { g = g; stage = stage; shape = shape; keeps = keeps }
from_pass p k h has translated = absurd has
from_pass p k h has (evaluations_inlined least) = absurd has
from_pass p k h has (both_inlined least) = absurd has
