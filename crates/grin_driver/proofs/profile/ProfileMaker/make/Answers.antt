use Rattle.std.proofs.lemmas.Result.{err_from_is_err_and}
use Rattle.grin_driver.proofs.Codes.{one_each}
use Rattle.grin_driver.proofs.Profiling.{profile_of_text}
use Rattle.grin_driver.proofs.profile.ProfileMaker.make.Goals as goal

pub profile_of-requires-clause-one_each : goal.profile_of-requires-clause-one_each
profile_of-requires-clause-one_each c = one_each _ _ _ c.in_ok-built.built
    c.in_ok-built.ensures.kept

pub returns-in-Ok-clause-made : goal.returns-in-Ok-clause-made
returns-in-Ok-clause-made c = profile_of_text _ c.in_ok-built.built c.in_ok-program.program _
    c.in_ok-built.ensures.kept (rw c.as_slice.ensures.value at c.in_ok-program.ensures.loads)
    c.in-Ok.ensures

pub returns-in_err-program-clause-refused : goal.returns-in_err-program-clause-refused
returns-in_err-program-clause-refused c =
    let q = err_from_is_err_and c.from_residual-in_err-program.result
    c.from_residual-in_err-program.ensures.1 in
    rw (q.1, q.2) (c.in_err-program.ensures.unloaded c.args.text.now)
