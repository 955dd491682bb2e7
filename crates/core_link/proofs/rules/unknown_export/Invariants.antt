use Rattle.std.proofs.Common.{◌≡◌, drop, None}
use Rattle.std.specs.Prelude.{not}
use Rattle.arity_check.specs.Tables.{known}
use Rattle.core_link.specs.Found.{earliest, binder_place, is_declared}
use Rattle.core_link.proofs.rules.unknown_export.Given as goal

abbrev pub invariant-loop-export : goal.invariant-loop-export
invariant-loop-export l = earliest (λ b. not (is_declared (known l.globals) b.name.0)) binder_place
    l.first (drop l.export-index l.exports) ≡ earliest
    (λ b. not (is_declared (known l.globals) b.name.0)) binder_place None l.exports
