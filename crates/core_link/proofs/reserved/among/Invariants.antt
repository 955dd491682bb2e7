use Rattle.std.proofs.Common.{◌≡◌, drop}
use Rattle.arity_check.specs.Known.{is_reserved}
use Rattle.arity_check.specs.Tables.{known}
use Rattle.core_link.specs.Found.{earliest, binder_place}
use Rattle.core_link.proofs.reserved.among.Given as goal

abbrev pub invariant-loop-binder : goal.invariant-loop-binder
invariant-loop-binder l = earliest (λ b. is_reserved (known l.globals) b.name.0) binder_place
    l.first (drop l.binder-index l.binders) ≡ earliest (λ b. is_reserved (known l.globals) b.name.0)
    binder_place l.fn.found l.binders
