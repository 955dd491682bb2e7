use Rattle.text_commands.proofs.TypesFit.{typed_short, untyped_long}
use Rattle.text_commands.proofs.types.TypesMaker.refuses_long.Goals as goal

pub returns : goal.returns
returns c = record { unmade = typed_short; refused = untyped_long }
