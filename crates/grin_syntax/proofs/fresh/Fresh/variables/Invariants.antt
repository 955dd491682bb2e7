use Rattle.std.proofs.Common.{◌≡◌, ◌+◌}
use Rattle.grin_syntax.specs.Fresh.{variables}
use Rattle.grin_syntax.proofs.fresh.Fresh.variables.Given as goal

abbrev pub invariant-loop : goal.invariant-loop
invariant-loop l = record {
  some : l.made ≡ variables l.initial.self.next l.counter;
  taken
      : l.self.next ≡ l.initial.self.next + l.counter;
}
