use Rattle.text_commands.proofs.Lifted.{lifted_short, first_long}
use Rattle.text_commands.proofs.lift.LiftMaker.refuses_long.Goals as goal

pub returns : goal.returns
returns c = record { unmade = lifted_short; refused = first_long }
