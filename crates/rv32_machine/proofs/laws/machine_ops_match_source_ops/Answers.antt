use Rattle.rv32_machine.proofs.Division.{operations_agree}
use Rattle.rv32_machine.proofs.laws.machine_ops_match_source_ops.Goals as goal

pub returns : goal.returns
returns c = operations_agree
