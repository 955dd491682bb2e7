use Rattle.arity_check.specs.Program.{program}
use Rattle.text_commands.proofs.Texts.{accepted_is_valid}
use Rattle.grin_driver.proofs.Outcomes.{too_large, unlisted_is_unmade}
use Rattle.grin_driver.proofs.Codes.{image_of, code_of, is_kept, is_short}
use Rattle.stage_names.specs.declared.PassName.TheVariants.{Eval}
use Rattle.grin_driver.proofs.image.compiled.Goals as goal

pub build-requires-clause-valid : goal.build-requires-clause-valid
build-requires-clause-valid c = accepted_is_valid _ _ _ c.in_ok-accepted.ensures.accepted.accepted

pub returns-in-Ok-clause-image : goal.returns-in-Ok-clause-image
returns-in-Ok-clause-image c =
    let a = c.in_ok-accepted.ensures.accepted in
    image_of c.args.text.now c.args.options.cells c.args.options.stack a.source
    (program c.in_ok-accepted.accepted.program) a.accepted c.in-Ok.ensures.fits c.in-Ok.built
    c.in-Ok.ensures.built

pub returns-in-Ok-clause-kept : goal.returns-in-Ok-clause-kept
returns-in-Ok-clause-kept c =
    let a = c.in_ok-accepted.ensures.accepted in
    is_kept c.args.text.now c.args.options.cells c.args.options.stack a.source
    (program c.in_ok-accepted.accepted.program) a.accepted c.in-Ok.ensures.fits c.in-Ok.built
    c.in-Ok.ensures.built

pub returns-in-Ok-clause-code : goal.returns-in-Ok-clause-code
returns-in-Ok-clause-code c =
    let a = c.in_ok-accepted.ensures.accepted in
    code_of c.args.text.now c.args.options.cells c.args.options.stack a.source
    (program c.in_ok-accepted.accepted.program) a.accepted c.in-Ok.ensures.fits c.in-Ok.built
    c.in-Ok.ensures.built

pub returns-in-Ok-clause-short : goal.returns-in-Ok-clause-short
returns-in-Ok-clause-short c = is_short _ _ _ c.in-Ok.built c.in-Ok.ensures.built

pub returns-clause-unmade : goal.returns-clause-unmade
returns-clause-unmade c =
    let a = c.in_ok-accepted.ensures.accepted in
    unlisted_is_unmade _ _
    (c.no_stages_status.ensures _ _ _ Eval a.accepted (too_large _ _ c.in-Err.ensures.refused))
