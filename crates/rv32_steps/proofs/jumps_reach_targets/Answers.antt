use Rattle.rv32_steps.proofs.Control.{jal, jalr, taken, not_taken}
use Rattle.rv32_steps.proofs.jumps_reach_targets.Goals as goal

pub returns : goal.returns
returns c = record { jumps = jal; returns_back = jalr; taken = taken; not_taken = not_taken }
