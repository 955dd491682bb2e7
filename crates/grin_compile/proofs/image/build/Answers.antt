use Rattle.std.proofs.lemmas.Result.{err_from_is_err_and}
use Rattle.arity_check.specs.Program.{program}
use Rattle.grin_syntax.specs.Tree.{program_of}
use Rattle.stage_names.specs.declared.PassName.TheVariants.{Apply}
use Rattle.grin_compile.specs.Limits.{whole_words}
use Rattle.grin_compile.proofs.CompiledProgram.{built}
use Rattle.grin_compile.proofs.Ended.{ended, is_large, is_not_translate}
use Rattle.grin_compile.proofs.Staged.{taken_by, small_program, small_largest}
use Rattle.grin_compile.proofs.image.build.Goals as goal

pub optimise-requires-clause-taken : goal.optimise-requires-clause-taken
optimise-requires-clause-taken c = taken_by c.vectorise_takes_inlined.ensures (program c.args.p.now)
    c.requires.valid _ c.in_ok-applied.ensures.made

pub is_slim-requires-clause-program : goal.is_slim-requires-clause-program
is_slim-requires-clause-program c =
    small_program c.expanded_size_is_unique.ensures (program c.args.p.now)
    (c.in_ok-applied.ensures.fits is_not_translate) _ c.in_ok-applied.ensures.made _
    c.sizes_of-sizes.ensures

pub is_slim-requires-clause-largest : goal.is_slim-requires-clause-largest
is_slim-requires-clause-largest c =
    small_largest c.expanded_size_is_unique.ensures (program c.args.p.now)
    (c.in_ok-applied.ensures.fits is_not_translate) _ c.in_ok-applied.ensures.made _
    c.sizes_of-sizes.ensures

pub image_below-requires-clause-lowerable : goal.image_below-requires-clause-lowerable
image_below-requires-clause-lowerable c =
    let made = c.in_ok-applied.ensures in
    let last = ended c.expanded_size_is_unique.ensures (program c.args.p.now)
    (made.fits is_not_translate) _ made.made _ c.sizes_of-sizes.ensures
    c.vectorise_takes_inlined.ensures c.requires.valid made.meaning (program_of c.in_ok-last.last)
    c.in_ok-last.ensures (c.is_slim.ensures.slim c.if-not-is_slim.false) in
    last.lowerable

pub returns-clause-built : goal.returns-clause-built
returns-clause-built c =
    let made = c.in_ok-applied.ensures in
    let last = ended c.expanded_size_is_unique.ensures (program c.args.p.now)
    (made.fits is_not_translate) _ made.made _ c.sizes_of-sizes.ensures
    c.vectorise_takes_inlined.ensures c.requires.valid made.meaning (program_of c.in_ok-last.last)
    c.in_ok-last.ensures (c.is_slim.ensures.slim c.if-not-is_slim.false) in
    built c.translation_refines.ensures (program c.args.p.now) c.requires.valid c.args.options.cells
    (whole_words c.args.options.stack) _ _ _ last c.in_ok-lowered.lowered
    c.in_ok-lowered.ensures

pub returns-clause-fits : goal.returns-clause-fits
returns-clause-fits c = c.in_ok-applied.ensures.fits is_not_translate

pub returns-in_err-applied-clause-refused : goal.returns-in_err-applied-clause-refused
returns-in_err-applied-clause-refused c =
    let q = err_from_is_err_and c.from_residual.result c.from_residual.ensures.1 in
    rw (q.1, q.2)
    (is_large (program c.args.p.now) Apply c.in_err-applied.field-0.0
    c.in_err-applied.ensures.refused)

pub returns-in_err-last-clause-refused : goal.returns-in_err-last-clause-refused
returns-in_err-last-clause-refused c =
    let q = err_from_is_err_and c.from_residual-in_err-last.result
    c.from_residual-in_err-last.ensures.1 in
    rw (q.1, q.2) tt

pub returns-in_err-lowered-clause-refused : goal.returns-in_err-lowered-clause-refused
returns-in_err-lowered-clause-refused c =
    let q = err_from_is_err_and c.from_residual-in_err-lowered.result
    c.from_residual-in_err-lowered.ensures.1 in
    rw (q.1, q.2) tt
