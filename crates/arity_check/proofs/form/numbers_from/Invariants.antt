use Rattle.std.proofs.Common.{◌≡◌, ◌+◌}
use Rattle.std.specs.List.{range_with_len}
use Rattle.arity_check.proofs.form.numbers_from.Given as goal

abbrev pub invariant-loop-number : goal.invariant-loop-number
invariant-loop-number l = record
    { numbers : l.numbers ≡ range_with_len l.first l.number; next : l.next ≡ l.first + l.number }
