-- The lines of the procedures that are left complete the text.
use Rattle.std.proofs.Common.{◌≡◌, ◌++◌, drop}
use Rattle.grin_driver.specs.Needs.{procedure_lines}
use Rattle.grin_driver.proofs.needs.put_procedures.Given as goal

abbrev pub invariant-loop-f : goal.invariant-loop-f
invariant-loop-f l =
    l.text ++ procedure_lines (drop l.f l.names) (drop l.f l.frames) (drop l.f l.code)
    ≡ l.initial.text ++ procedure_lines l.names l.frames l.code
