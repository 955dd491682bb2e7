use Rattle.rv32_machine.proofs.Composed.{runs_compose}
use Rattle.rv32_machine.proofs.laws.runs_compose.Goals as goal

pub returns : goal.returns
returns c = runs_compose
