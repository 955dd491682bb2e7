use Rattle.std.proofs.Common.{◌≡◌, length}
use Rattle.match_compile.specs.RowOf.{pending, names_bound_row}
use Rattle.match_compile.proofs.row.settle.Given as goal

abbrev pub invariant-names : goal.invariant-names
invariant-names l = names_bound_row l.bound (pending l.jobs) ≡ names_bound_row l.initial.bound
    (pending l.initial.jobs)

abbrev pub decreases-names : goal.decreases-names
decreases-names l = length l.jobs
