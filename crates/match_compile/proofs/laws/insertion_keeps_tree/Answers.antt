use Rattle.match_compile.specs.Trees.{settled}
use Rattle.match_compile.proofs.Inserted.{inserted, settled_is}
use Rattle.match_compile.proofs.laws.insertion_keeps_tree.Goals as goal

pub returns : goal.returns
returns c = λ room n body bound jobs rows t u i e. inserted room t n (settled body bound jobs)
    (settled_is body bound jobs) i u e
