use Rattle.std.proofs.Common.{◌≡◌, drop}
use Rattle.std.specs.Prelude.{◌||◌}
use Rattle.low_code.specs.Formed.{used_by_all}
use Rattle.seq.specs.Lists.{is_among}
use Rattle.rv32_select.proofs.decides.are_using.Given as goal

abbrev pub invariant-loop-operand : goal.invariant-loop-operand
invariant-loop-operand l =
    (l.found || is_among l.variable (used_by_all (drop l.operand-index l.operands))) ≡ is_among
    l.variable (used_by_all l.operands)
