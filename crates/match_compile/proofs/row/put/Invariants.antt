use Rattle.std.proofs.Common.{◌≡◌, ◌≤◌, ◌++◌, length, drop}
use Rattle.match_compile.specs.Trees.{pending_patterns_at}
use Rattle.match_compile.specs.RowOf.{pending}
use Rattle.match_compile.proofs.Rows.{all_pats}
use Rattle.match_compile.proofs.row.put.Given as goal

abbrev pub invariant-pats : goal.invariant-pats
invariant-pats l = record {
  within : l.at ≤ length l.pats;
  jobs : pending l.jobs ≡ pending_patterns_at (drop l.at l.places) (all_pats (drop l.at l.pats))
      ++ pending l.initial.jobs;
}

abbrev pub decreases-pats : goal.decreases-pats
decreases-pats l = l.at
