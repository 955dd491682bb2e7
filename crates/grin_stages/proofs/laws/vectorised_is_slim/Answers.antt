use Rattle.grin_stages.proofs.Slimness.{vectorised_slim}
use Rattle.grin_stages.proofs.laws.vectorised_is_slim.Goals as goal

pub returns : goal.returns
returns c = vectorised_slim c.programs_are_slim.ensures
