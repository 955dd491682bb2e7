use Rattle.std.proofs.Common.{◌≡◌, [], map, length}
use Rattle.match_compile.specs.DecisionOf.{clause_of, functions_of}
use Rattle.match_compile.proofs.Decides.{joined_all}
use Rattle.match_compile.proofs.decide.functions.Given as goal

abbrev pub invariant-clauses : goal.invariant-clauses
invariant-clauses l = joined_all (map clause_of l.clauses) (functions_of l.made) ≡ joined_all
    (map clause_of l.initial.clauses) []

abbrev pub decreases-clauses : goal.decreases-clauses
decreases-clauses l = length l.clauses
