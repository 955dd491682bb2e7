use Rattle.std.proofs.Common.{◌≡◌, ◌++◌}
use Rattle.test_layout.specs.Alternatives.{alternatives}
use Rattle.test_layout.proofs.alternatives.put_alternatives.Given as goal

abbrev pub invariant-loop-k : goal.invariant-loop-k
invariant-loop-k l = l.items ≡ l.initial.items ++ alternatives l.count l.k
