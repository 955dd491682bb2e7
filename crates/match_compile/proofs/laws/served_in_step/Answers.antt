use Rattle.match_compile.proofs.Whole.{served_in_step}
use Rattle.match_compile.proofs.laws.served_in_step.Goals as goal

pub returns : goal.returns
returns c = served_in_step
