use Rattle.match_compile.proofs.Kept.{known_stays}
use Rattle.match_compile.proofs.laws.evaluation_keeps_values.Goals as goal

pub returns : goal.returns
returns c = known_stays
