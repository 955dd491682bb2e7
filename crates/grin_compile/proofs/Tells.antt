-- What the stages and the low code tell of a program.
use Rattle.std.proofs.Common.{◌≡◌, ◌≢◌, ℕ, zero, suc, ◌≤◌, List, [], ◌∷◌, Some, slice_get, refl, sym, ap, ◌∙◌, subst, arith}
use Rattle.headline.specs.Carries as told
use Rattle.headline.specs.Carries.{MeaningRefines}
use Rattle.arity_check.specs.Accepted.{IsValid}
use Rattle.arity_check.specs.Program as core
use Rattle.core_meaning.specs.Printing as core_end
use Rattle.core_meaning.specs.Printing.{Done, Unaccepted, Going, printed}
use Rattle.core_meaning.specs.Told as core_told
use Rattle.core_meaning.specs.Told.{core_program_meaning}
use Rattle.grin_syntax.specs.Tree.{Program}
use Rattle.grin_meaning.specs.Values.{no_alternative, out_of_units, missing}
use Rattle.grin_meaning.specs.Run.{run}
use Rattle.grin_meaning.specs.Keeps.{RunEnd, done, ended, end_of, Keeps}
use Rattle.grin_meaning.specs.Told.{told_end, meaning_of_grin}
use Rattle.grin_translate.specs.Same.{grin_end_of, ValidTranslationPreservesRuns}
use Rattle.grin_translate.specs.Translation.{tr}
use Rattle.stage_names.specs.declared.PassName.{PassName}
use Rattle.low_code.specs.Tree as low
use Rattle.low_code.specs.Run as low_run
use Rattle.low_code.specs.Told as low_told
use Rattle.low_translate.specs.Lowers.{Lowers}
use Rattle.grin_compile.specs.Stages.{AreStages}

pub tells_both : (t u v : told.MeaningResult) → MeaningRefines t u → MeaningRefines u v
    → MeaningRefines t v
tells_both t u v a b = record {
  out = b.out ∙ a.out;
  end = b.end ∙ a.end;
  used = b.used ∙ a.used;
  cells = omega (arith, a.cells, b.cells);
}

same_end : (e : core_end.PrintingEnd) → told_end (grin_end_of e) ≡ core_told.meaning_end e
same_end Done = refl
same_end Unaccepted = refl
same_end Going = refl

never : (e : core_end.PrintingEnd) → grin_end_of e ≢ ended missing
never Done h = cc
never Unaccepted h = cc
never Going h = cc

-- each of the stages does what the translation does
pub stages_keep : (p : core.Program) (ks : List PassName) (g : Program) (hs : List Program)
    → AreStages p ks g hs
    → (k : ℕ) (h : Program) → slice_get hs k ≡ Some h → Keeps (tr p) h
stages_keep p [] g [] are k h there = cc
stages_keep p [] g (x ∷ hs) are k h there = absurd are
stages_keep p (a ∷ ks) g [] are k h there = absurd are
stages_keep p (a ∷ ks) g (x ∷ hs) are zero h there = let e : x ≡ h = cc
    in subst (Keeps (tr p)) e are.0
stages_keep p (a ∷ ks) g (x ∷ hs) are (suc k) h there = stages_keep p ks x hs are.1.1 k h there

module _ (does : ValidTranslationPreservesRuns) (p : core.Program) (valid : IsValid p) where
  not_missing : (i : List ℕ) (n : ℕ) → end_of (run (tr p) i n) ≢ ended missing
  not_missing i n h = never (printed p i n).end (sym (does p valid i n).same_end ∙ h)

  module _ (g : Program) (keeps : Keeps (tr p) g) where
    pub stage_never_missing : (i : List ℕ) (n : ℕ) → end_of (run g i n) ≢ ended missing
    stage_never_missing i n h = not_missing i n (sym (keeps.same_end i n (not_missing i n)) ∙ h)

    -- a stage tells what evaluation by need tells
    pub stage_tells : (i : List ℕ) (n : ℕ) → MeaningRefines (core_program_meaning p i n)
        (meaning_of_grin g i n)
    stage_tells i n =
        let d = does p valid i n in
        let m = not_missing i n in
        record {
          out = keeps.same_out i n m ∙ d.same_out;
          end = ap told_end (keeps.same_end i n m ∙ d.same_end) ∙ same_end (printed p i n).end;
          used = keeps.same_used i n m ∙ d.same_used;
          cells = omega (arith, keeps.no_more_cells i n m, d.no_more_cells);
        }

    -- and goes no deeper
    pub stage_no_deeper : (i : List ℕ) (n : ℕ) → (meaning_of_grin g i n).depth ≤
        (core_program_meaning p i n).depth
    stage_no_deeper i n = omega
        (arith, keeps.no_deeper i n (not_missing i n), (does p valid i n).no_deeper)

is_missing : (e : RunEnd) → told_end e ≡ told.missing → e ≡ ended missing
is_missing done h = cc
is_missing (ended no_alternative) h = cc
is_missing (ended out_of_units) h = cc
is_missing (ended missing) h = refl

-- low code of a program that is never missing is never missing
pub low_never_missing : (g : Program) (l : low.Program) → Lowers g l
    → ((i : List ℕ) (n : ℕ) → end_of (run g i n) ≢ ended missing) → low_run.NeverMissing l
low_never_missing g l lowers never frame_words i bytes n h =
    let e : low_told.told_end (low_run.end_of (low_run.run l frame_words i n)) ≡ told.missing
    = ap low_told.told_end h in
    never i n (is_missing (end_of (run g i n)) (sym (lowers.tells frame_words i bytes n).end ∙ e))
