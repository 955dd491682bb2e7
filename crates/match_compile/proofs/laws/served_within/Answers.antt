use Rattle.match_compile.proofs.Whole.{served_within}
use Rattle.match_compile.proofs.laws.served_within.Goals as goal

pub returns : goal.returns
returns c = served_within
