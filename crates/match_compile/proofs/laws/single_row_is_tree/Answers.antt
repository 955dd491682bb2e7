use Rattle.match_compile.specs.Trees.{settled}
use Rattle.match_compile.proofs.Inserted.{alone_is, settled_is}
use Rattle.match_compile.proofs.laws.single_row_is_tree.Goals as goal

pub returns : goal.returns
returns c = λ n body bound jobs. alone_is n (settled body bound jobs) (settled_is body bound jobs)
