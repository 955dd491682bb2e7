use Rattle.text_commands.proofs.TypesFit.{sides_short, another_long}
use Rattle.text_commands.proofs.sides.SidesMaker.refuses_long.Goals as goal

pub returns : goal.returns
returns c = record { unmade = sides_short; refused = another_long }
