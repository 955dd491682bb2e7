use Rattle.arity_check.specs.Program.{program}
use Rattle.grin_stages.proofs.Stages.{made_applications}
use Rattle.grin_stages.proofs.pipeline.applied.Goals as goal

pub returns-clause-made : goal.returns-clause-made
returns-clause-made c =
    let a = c.in_ok-analysis.ensures.analysed in
    let e = c.in_ok-evaluated.ensures in
    let b = c.in_ok-applied.ensures in
    made_applications (program c.args.p.now) _ _ _ a.is_translation a.least a.analysed
    a.never_missing a.fits e.inlined e.formed e.meaning _ b.inlined b.formed b.meaning
