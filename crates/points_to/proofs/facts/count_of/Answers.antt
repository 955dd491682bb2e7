use Rattle.std.proofs.Common.{arith}
use Rattle.points_to.proofs.Sets.{at_none}
use Rattle.points_to.proofs.facts.count_of.Goals as goal

pub returns : goal.returns
returns c = λ m le. at_none c.args.sets.now m (omega arith)
