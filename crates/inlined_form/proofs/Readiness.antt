-- A translated program whose evaluations and applications are inlined is ready for the passes
-- after.
use Rattle.std.proofs.Common.{◌≡◌, ◌≢◌, ℕ, ◌≤◌, ◌+◌, List, [], ◌∷◌, length, sym, ◌∙◌, arith}
use Rattle.arity_check.specs.Program as core
use Rattle.grin_syntax.specs.Tree.{Procedure}
use Rattle.grin_syntax.specs.Formed.{AllOf, Formed}
use Rattle.grin_syntax.specs.Fresh.{past_procs}
use Rattle.grin_meaning.specs.Values.{missing}
use Rattle.grin_meaning.specs.Run.{run}
use Rattle.grin_meaning.specs.Keeps.{Keeps, ended, end_of}
use Rattle.grin_meaning.specs.Ready.{most_value_fields, Ready}
use Rattle.flow_system.specs.Solution.{Solution}
use Rattle.grin_rewrite.proofs.CountedText.{params_stay}
use Rattle.inline_theory.specs.Evaluations.{eval_rule, eval_inlined}
use Rattle.inline_theory.specs.Applications.{apply_rule, inlined}
use Rattle.grin_translate.specs.Translation.{tr}
use Rattle.core_meaning.specs.Printing.{printed, PrintingEnd, Done, Unaccepted, Going}
use Rattle.core_meaning.specs.WellFormed.{WellFormed}
use Rattle.arity_check.specs.Accepted.{IsValid}
use Rattle.grin_translate.specs.Same.{grin_end_of}
use Rattle.grin_translate.proofs.Printing.{translation_does_as}
use Rattle.translated_form.proofs.Bounds.{valid_few_words}
use Rattle.translated_form.proofs.Limits.{valid_is_well_formed}
use Rattle.translated_form.specs.Laws.{ValidTranslationsAreFormed}
use Rattle.inline_theory.proofs.InlinedTogether.{inlining_law}
use Rattle.inline_theory.proofs.ApplicationsText as applications
use Rattle.inline_theory.proofs.EvaluationsText as evaluations
use Rattle.inline_theory.proofs.Bounds.{uses_bound}
use Rattle.flow_system.proofs.Starting.{formed_is_started}
use Rattle.inlined_form.specs.Laws.{InlinedProgramsAreReady}
use Rattle.inlined_form.proofs.Sorts.{ProgramFits}
use Rattle.inlined_form.proofs.RunsWell.{runs_well}
use Rattle.inlined_form.proofs.Evaluations.{evaluations_fit}
use Rattle.inlined_form.proofs.Applications.{applications_fit}
use Rattle.inlined_form.proofs.Texts.{procs_inlined, procs_narrow}
use Rattle.inlined_form.proofs.Translated.{translated_fits, first_is_no_part}

abbrev FewParams : List Procedure → Type 0
FewParams qs = AllOf (λ q. length q.params ≤ 16) qs

at_most_16 : (qs : List Procedure) → AllOf (λ q. length q.params ≤ 13) qs → FewParams qs
at_most_16 [] h = tt
at_most_16 (q ∷ qs) h = (omega (arith, h.0), at_most_16 qs h.1)

pub inlined_fits : (p : core.Program) (A : Solution) → ProgramFits ⊥ ⊥ (inlined A (tr p))
inlined_fits p A = applications_fit (eval_inlined A (tr p)) A (first_is_no_part p)
    (evaluations_fit (tr p) A (translated_fits p))

pub never_missing : (p : core.Program) → WellFormed p → (i : List ℕ) (n : ℕ)
    → end_of (run (tr p) i n) ≢ ended missing
never_missing p ok i n = λ e. on (printed p i n).end
    (sym (translation_does_as p ok i n).same_end ∙ e)
  where
    on : (e : PrintingEnd) → grin_end_of e ≡ ended missing → ⊥
    on Done h = cc
    on Unaccepted h = cc
    on Going h = cc

module _ (p : core.Program) (valid : IsValid p) (A : Solution) where
  -- where inlining keeps what the program does
  ready_given_keeps : Keeps (tr p) (inlined A (tr p)) → Ready (inlined A (tr p))
  ready_given_keeps keeps =
      let q = eval_inlined A (tr p) in
      let h = inlined A (tr p) in
      let few = valid_few_words p valid in
      let fits = inlined_fits p A in
      let there = never_missing p (valid_is_well_formed p valid) in
      record {
        inlined = procs_inlined (tr p).tags h.procs fits.procedures;
        few_params = params_stay (apply_rule q A) 16 (past_procs q.procs) q.procs
            (params_stay (eval_rule (tr p) A) 16 (past_procs (tr p).procs) (tr p).procs
            (at_most_16 (tr p).procs few.few_params));
        few_results = procs_narrow (tr p).tags (1 + most_value_fields (tr p).tags) 13
            few.few_value_fields h.procs fits.procedures;
        few_fields = few.few_fields;
        never_missing = λ i n e. there i n (sym (keeps.same_end i n (there i n)) ∙ e);
        runs = λ i n. runs_well h fits i n;
      }

pub inlined_is_ready : ValidTranslationsAreFormed → InlinedProgramsAreReady
inlined_is_ready formed p valid A solves =
    let before : Formed (tr p) = formed p valid in
    let after : Formed (inlined A (tr p)) = applications.inlining_formed (eval_inlined A (tr p)) A
    (evaluations.inlining_formed (tr p) A before) in (
      after,
      formed_is_started (inlined A (tr p)) after,
      ready_given_keeps p valid A
          (inlining_law (tr p) A (formed_is_started (tr p) before) (uses_bound (tr p) before) solves),
    )
