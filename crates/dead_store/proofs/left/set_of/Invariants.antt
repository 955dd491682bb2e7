use Rattle.std.proofs.Common.{take}
use Rattle.dead_store.proofs.Numbers.{HasThose}
use Rattle.dead_store.proofs.left.set_of.Given as goal

abbrev pub invariant-loop-n : goal.invariant-loop-n
invariant-loop-n l = HasThose l.set.keys (take l.n-index l.numbers)
