use Rattle.std.proofs.Common.{◌≡◌, ◌++◌, reverse, length}
use Rattle.match_compile.proofs.compile.reversed.Given as goal

abbrev pub invariant-decisions : goal.invariant-decisions
invariant-decisions l = l.decisions ++ reverse l.made ≡ l.initial.decisions

abbrev pub decreases-decisions : goal.decreases-decisions
decreases-decisions l = length l.decisions
