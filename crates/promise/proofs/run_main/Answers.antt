use Rattle.promise.proofs.Promise.{keeps_promise}
use Rattle.promise.proofs.run_main.Goals as goal

pub returns-clause-promise : goal.returns-clause-promise
returns-clause-promise g c =
    keeps_promise c.what_is_told_is_derived.ensures _ _ _ _ _ c.grinc_main.ensures.answer.answer
