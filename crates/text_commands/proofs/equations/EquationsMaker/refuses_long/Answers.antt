use Rattle.text_commands.proofs.Matched.{matched_short, unmatched_long}
use Rattle.text_commands.proofs.equations.EquationsMaker.refuses_long.Goals as goal

pub returns : goal.returns
returns c = record { unmade = matched_short; refused = unmatched_long }
