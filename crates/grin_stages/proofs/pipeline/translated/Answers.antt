use Rattle.arity_check.specs.Program.{program}
use Rattle.grin_stages.proofs.Stages.{made_translation}
use Rattle.grin_stages.proofs.pipeline.translated.Goals as goal

pub returns-clause-made : goal.returns-clause-made
returns-clause-made c =
    let p = program c.args.p.now in
    made_translation p _ (c.valid_translations_are_formed.ensures.formed p c.requires)
    c.in_ok-translation.ensures
