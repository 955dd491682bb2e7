use Rattle.rv32_machine.proofs.Composed.{input_is_used_in_order}
use Rattle.rv32_machine.proofs.laws.input_is_used_in_order.Goals as goal

pub returns : goal.returns
returns c = input_is_used_in_order
