use Rattle.rv32_machine.proofs.Composed.{output_grows}
use Rattle.rv32_machine.proofs.laws.output_grows.Goals as goal

pub returns : goal.returns
returns c = output_grows
