use Rattle.rv32_machine.proofs.Composed.{end_stays}
use Rattle.rv32_machine.proofs.laws.ended_run_is_stable.Goals as goal

pub returns : goal.returns
returns c = end_stays
