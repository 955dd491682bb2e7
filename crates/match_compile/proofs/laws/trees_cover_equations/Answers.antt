use Rattle.match_compile.proofs.Decided.{trees_stand}
use Rattle.match_compile.proofs.laws.trees_cover_equations.Goals as goal

pub returns : goal.returns
returns c = trees_stand
