use Rattle.std.proofs.Common.{◌≡◌, ◌++◌, drop}
use Rattle.core_print.specs.Canonical.{binders_text}
use Rattle.core_print.proofs.printer.Text.binders.Given as goal

abbrev pub invariant-loop-binder : goal.invariant-loop-binder
invariant-loop-binder l = l.self ++ binders_text l.names (drop l.binder-index l.binders) ≡ l.fn.self
    ++ binders_text l.names l.binders
