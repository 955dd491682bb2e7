use Rattle.flow_system.proofs.Starting.{formed_is_started}
use Rattle.flow_system.proofs.formed_programs_can_start.Goals as goal

pub returns : goal.returns
returns c = formed_is_started
