use Rattle.std.specs.Ordering.{nat_cmp}
use Rattle.std.specs.BTreeMap.{get}
use Rattle.rv32_machine.specs.Starts.{Starts}
use Rattle.rv32_machine.proofs.memory.starts.Given as goal

abbrev pub invariant-loop-number : goal.invariant-loop-number
invariant-loop-number l = Starts l.regions l.number (get nat_cmp l.starts)
