use Rattle.std.proofs.Common.{◌≡◌, ◌+◌}
use Rattle.seq.specs.Lists.{numbers_from}
use Rattle.match_compile.proofs.row.numbers_from.Given as goal

abbrev pub invariant-loop-k : goal.invariant-loop-k
invariant-loop-k l = record {
  next : l.next ≡ l.first + l.k;
  numbers : l.numbers ≡ numbers_from l.first l.k;
}
