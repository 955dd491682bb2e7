use Rattle.std.proofs.Common.{ap}
use Rattle.match_compile.specs.Source.{Equation}
use Rattle.match_compile.specs.RowOf.{rows_of}
use Rattle.match_compile.specs.TreeOf.{tree_of}
use Rattle.match_compile.specs.DecisionOf.{clause_of}
use Rattle.match_compile.proofs.Decides.{planted_is}
use Rattle.match_compile.proofs.decide.plant.Goals as goal

pub returns : goal.returns
returns c =
    let e : Equation = clause_of c.args.clause in
    planted_is c.args.number e c.in_ok-way.params c.in_ok-tree.free (tree_of c.in_ok-tree.tree)
    (rows_of c.in_ok-way.way) c.in_ok-way.ensures.count
    (ap (λ f. f e.body) c.in_ok-way.ensures.way) c.in_ok-tree.ensures
