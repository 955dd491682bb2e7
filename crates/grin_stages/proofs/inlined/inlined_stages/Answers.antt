use Rattle.std.proofs.Common.{sym, subst, ◌∙◌}
use Rattle.arity_check.specs.Program.{program}
use Rattle.grin_syntax.specs.Tree.{program_of}
use Rattle.grin_syntax.specs.Formed.{Formed}
use Rattle.grin_meaning.specs.Keeps.{Keeps}
use Rattle.stage_names.specs.declared.PassName.TheVariants.{Translate}
use Rattle.grin_stages.specs.Stage.{IsStage, translated}
use Rattle.grin_stages.proofs.Stages.{made_evaluations, made_applications}
use Rattle.grin_stages.proofs.inlined.inlined_stages.Goals as goal

pub returns-clause-stages : goal.returns-clause-stages
returns-clause-stages c =
    let p = program c.args.p.now in
    let a = c.in_ok-analysis.ensures.analysed in
    let e = c.in_ok-evaluated.ensures in
    let b = c.in_ok-applied.ensures in
    let first = c.in_ok-first.ensures ∙ a.is_translation in
    let second = c.in_ok-second.ensures in
    let applied = made_applications p _ _ _ first a.least a.analysed a.never_missing a.fits
    (second ∙ e.inlined) (λ f. subst Formed (sym second) (e.formed f))
    (λ h. subst (Keeps (program_of c.in_ok-first.first)) (sym second) (e.meaning h)) _ b.inlined
    b.formed b.meaning in
    let evaluated = made_evaluations p _ _ _ first a.least a.analysed a.never_missing a.fits
    e.inlined e.formed e.meaning in
    record {
      translated = subst (IsStage p Translate) (sym a.is_translation) translated;
      evaluated = evaluated.made;
      applied = applied.made;
      formed = (
        subst Formed (sym a.is_translation) a.analysed.formed,
        (evaluated.formed, (applied.formed, tt)),
      );
      meaning = applied.meaning;
    }
