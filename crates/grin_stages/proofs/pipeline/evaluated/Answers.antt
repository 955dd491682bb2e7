use Rattle.arity_check.specs.Program.{program}
use Rattle.grin_stages.proofs.Stages.{made_evaluations}
use Rattle.grin_stages.proofs.pipeline.evaluated.Goals as goal

pub returns-clause-made : goal.returns-clause-made
returns-clause-made c =
    let a = c.in_ok-analysis.ensures.analysed in
    let e = c.in_ok-evaluated.ensures in
    made_evaluations (program c.args.p.now) _ _ _ a.is_translation a.least a.analysed
    a.never_missing a.fits e.inlined e.formed e.meaning
