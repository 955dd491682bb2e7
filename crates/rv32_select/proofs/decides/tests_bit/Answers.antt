use Rattle.std.proofs.Common.{refl}
use Rattle.rv32_select.proofs.Deciding.{picked, not_picked}
use Rattle.rv32_select.proofs.decides.tests_bit.Goals as goal

pub returns-then-is_var : goal.returns-then-is_var
returns-then-is_var c = picked c.is_var.result _ _ _ c.is_var.ensures c.if-is_var.true refl

pub returns : goal.returns
returns c = not_picked c.is_var.result _ _ c.is_var.ensures c.if-is_var.false
