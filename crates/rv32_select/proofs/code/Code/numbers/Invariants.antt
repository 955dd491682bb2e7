use Rattle.std.proofs.Common.{◌≡◌, ◌++◌}
use Rattle.rv32_select.specs.Emit.{plain, number_moves}
use Rattle.rv32_select.specs.Ranges.{AllInRange}
use Rattle.rv32_select.proofs.code.Code.numbers.Given as goal

abbrev pub invariant-loop-to : goal.invariant-loop-to
invariant-loop-to l =
    (l.self ++ plain (number_moves l.to-iterator.a.rest.now l.to-iterator.b.rest.now) ≡
    l.initial.self ++ plain (number_moves l.to l.from)) × AllInRange l.to-iterator.a.rest.now
