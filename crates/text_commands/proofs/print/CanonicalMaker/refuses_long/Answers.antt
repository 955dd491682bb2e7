use Rattle.text_commands.proofs.Printed.{canonical_short, first_long}
use Rattle.text_commands.proofs.print.CanonicalMaker.refuses_long.Goals as goal

pub returns : goal.returns
returns c = record { unmade = canonical_short; refused = first_long }
