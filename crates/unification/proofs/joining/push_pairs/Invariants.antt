use Rattle.std.proofs.Common.{◌≡◌, ◌++◌, take}
use Rattle.unification.specs.Classes.{paired}
use Rattle.unification.proofs.joining.push_pairs.Given as goal

abbrev pub invariant-loop-i : goal.invariant-loop-i
invariant-loop-i l = l.todo.items ≡ l.initial.todo.items ++ paired (take l.i l.xs) (take l.i l.ys)
