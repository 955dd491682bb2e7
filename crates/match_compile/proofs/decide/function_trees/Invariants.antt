use Rattle.std.proofs.Common.{◌≡◌, ◌++◌, suc, length}
use Rattle.match_compile.specs.Sizes.{rows}
use Rattle.match_compile.specs.Decisions.{decided, decisions_from}
use Rattle.match_compile.specs.DecisionOf.{clauses_of, decision_of, decisions_of}
use Rattle.match_compile.specs.TreeOf.{tree_of}
use Rattle.match_compile.specs.Known.{FirstIsKnown}
use Rattle.match_compile.proofs.Decides.{open_rows}
use Rattle.match_compile.proofs.decide.function_trees.Given as goal

abbrev pub invariant-equations : goal.invariant-equations
invariant-equations l = record {
  whole : decisions_of l.made ++ decided (decision_of l.decision) (suc l.number)
      (open_rows l.is_last l.function)
      ≡ decisions_from l.fn.number (rows (clauses_of l.fn.function));
  known : FirstIsKnown l.known.keys (tree_of l.decision.tree);
}

abbrev pub decreases-equations : goal.decreases-equations
decreases-equations l = length l.function
