use Rattle.rv32_steps.proofs.Moves.{stretches_join, keeps_the_input}
use Rattle.rv32_steps.proofs.steps_compose.Goals as goal

pub returns : goal.returns
returns c = record { join = stretches_join; input = keeps_the_input }
