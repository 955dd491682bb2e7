use Rattle.std.proofs.Common.{◌≡◌, ◌++◌, map, length}
use Rattle.match_compile.specs.Decisions.{all_decisions}
use Rattle.match_compile.specs.DecisionOf.{functions_of, decisions_of}
use Rattle.match_compile.proofs.decide.decide.Given as goal

abbrev pub invariant-functions : goal.invariant-functions
invariant-functions l = map decisions_of l.made ++ all_decisions l.number (functions_of l.functions)
    ≡ all_decisions 0 (functions_of l.initial.functions)

abbrev pub decreases-functions : goal.decreases-functions
decreases-functions l = length l.functions
