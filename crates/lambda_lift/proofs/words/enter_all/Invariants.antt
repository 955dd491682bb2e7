use Rattle.std.proofs.Common.{◌≡◌, drop}
use Rattle.arity_check.specs.Known.{all_entered}
use Rattle.arity_check.specs.Tables.{known}
use Rattle.lambda_lift.proofs.words.enter_all.Given as goal

abbrev pub invariant-loop-binder : goal.invariant-loop-binder
invariant-loop-binder l = all_entered (known l.globals) (drop l.binder-index l.binders) l.scope ≡
    all_entered (known l.globals) l.binders l.fn.scope
