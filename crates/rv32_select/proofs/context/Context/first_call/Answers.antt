use Rattle.std.proofs.Common.{sym, subst}
use Rattle.rv32_select.specs.Ranges.{AllInRange}
use Rattle.rv32_select.proofs.Sending.{targets_in_range}
use Rattle.rv32_select.proofs.context.Context.first_call.Goals as goal

pub numbers-requires : goal.numbers-requires
numbers-requires c = subst AllInRange (sym c.as_slice.ensures.value)
    (targets_in_range _ c.in_ok-to.ensures.1)
