use Rattle.std.proofs.Common.{◌≡◌, drop, map}
use Rattle.core_reader.specs.Tree.{function}
use Rattle.arity_check.specs.Known.{is_reserved}
use Rattle.arity_check.specs.Tables.{known}
use Rattle.core_link.specs.Bound.{bound_in_functions}
use Rattle.core_link.specs.Found.{earliest, binder_place}
use Rattle.core_link.proofs.reserved.in_functions.Given as goal

abbrev pub invariant-loop-function : goal.invariant-loop-function
invariant-loop-function l = earliest (λ b. is_reserved (known l.globals) b.name.0) binder_place
    l.first (bound_in_functions (map function (drop l.function-index l.functions))) ≡ earliest
    (λ b. is_reserved (known l.globals) b.name.0) binder_place l.fn.found
    (bound_in_functions (map function l.functions))
