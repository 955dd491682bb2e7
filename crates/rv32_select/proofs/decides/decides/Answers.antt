use Rattle.rv32_select.proofs.Deciding.{picked, not_picked}
use Rattle.rv32_select.proofs.decides.decides.Goals as goal

pub returns-then-compares : goal.returns-then-compares
returns-then-compares c = picked c.compares.result _ c.decides_end.result _ c.compares.ensures
    c.if-compares.true c.decides_end.ensures

pub returns : goal.returns
returns c = not_picked c.compares.result _ _ c.compares.ensures c.if-compares.false
