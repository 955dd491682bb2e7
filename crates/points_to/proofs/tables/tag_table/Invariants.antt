use Rattle.points_to.specs.Known.{held}
use Rattle.points_to.proofs.Read.{TableSoFar}
use Rattle.points_to.proofs.tables.tag_table.Given as goal

abbrev pub invariant-loop-n : goal.invariant-loop-n
invariant-loop-n l = TableSoFar (λ t. t.0) (held l.facts) l.kind l.w l.table l.n
