use Rattle.rv32_items.proofs.LastStep.{exit_keeps}
use Rattle.rv32_items.proofs.laws.exit_keeps_registers.Goals as goal

pub returns : goal.returns
returns c = exit_keeps
