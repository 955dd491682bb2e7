use Rattle.std.proofs.lemmas.Result.{err_from_is_err_and}
use Rattle.std.proofs.Common.{subst}
use Rattle.arity_check.specs.Program.{program}
use Rattle.grin_compile.specs.Limits.{whole_words}
use Rattle.grin_compile.specs.Parts.{HasImage}
use Rattle.grin_compile.proofs.CompiledProgram.{compilation, made_by}
use Rattle.grin_compile.proofs.compilation.compile.Goals as goal

pub returns-clause-parts : goal.returns-clause-parts
returns-clause-parts c =
    let stack = whole_words c.args.options.stack in
    compilation c.translation_refines.ensures (program c.args.p.now) c.requires.valid
    c.args.options.cells stack _ c.in_ok-stages.ensures.stages
    (subst (λ g. HasImage g c.args.options.cells stack c.in_ok-lowered.lowered)
    c.later_stage.ensures c.in_ok-lowered.ensures)

pub returns-clause-made : goal.returns-clause-made
returns-clause-made c = made_by (program c.args.p.now) c.args.options.cells
    (whole_words c.args.options.stack) _ (returns-clause-parts c)

pub returns-in_err-lowered-clause-refused : goal.returns-in_err-lowered-clause-refused
returns-in_err-lowered-clause-refused c =
    let q = err_from_is_err_and c.from_residual-in_err-lowered.result
    c.from_residual-in_err-lowered.ensures.1 in
    rw (q.1, q.2) tt
