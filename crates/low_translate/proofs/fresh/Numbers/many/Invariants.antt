use Rattle.std.proofs.Common.{◌≡◌, ◌+◌}
use Rattle.low_translate.proofs.fresh.Numbers.many.Given as goal
use Rattle.seq.specs.Lists.{numbers_from}

abbrev pub invariant-loop : goal.invariant-loop
invariant-loop l = record {
  some : l.made ≡ numbers_from l.initial.self.next l.counter;
  taken
      : l.self.next ≡ l.initial.self.next + l.counter;
}
