use Rattle.std.proofs.lemmas.Result.{err_from_is_err_and}
use Rattle.grin_driver.proofs.Tracing.{trace_of_text}
use Rattle.grin_driver.proofs.trace.told_trace.Goals as goal

pub returns-in-Ok-clause-told : goal.returns-in-Ok-clause-told
returns-in-Ok-clause-told c = trace_of_text _ _ c.in_ok-built.built c.in_ok-program.program _
    c.in_ok-built.ensures.kept (rw c.as_slice.ensures.value at c.in_ok-program.ensures.loads)
    c.in-Ok.ensures

pub returns-in_err-program-clause-untold : goal.returns-in_err-program-clause-untold
returns-in_err-program-clause-untold c =
    let q = err_from_is_err_and c.from_residual-in_err-program.result
    c.from_residual-in_err-program.ensures.1 in
    rw (q.1, q.2) (c.in_err-program.ensures.unloaded c.args.text.now)
