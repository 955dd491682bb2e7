use Rattle.std.proofs.Common.{◌≡◌, length}
use Rattle.points_to.specs.Met.{IsPartialTagTable}
use Rattle.points_to.specs.Stored.{sets_at}
use Rattle.points_to.proofs.met.variable_tag_table.Given as goal

abbrev pub invariant-loop-n : goal.invariant-loop-n
invariant-loop-n l = record {
  many : length l.table ≡ l.n;
  met : IsPartialTagTable (sets_at l.sets.items) l.var_sites
      l.table;
}
