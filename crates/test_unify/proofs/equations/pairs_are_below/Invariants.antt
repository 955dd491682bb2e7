use Rattle.std.proofs.Common.{take}
use Rattle.unification.specs.Terms.{PairsAreBelow}
use Rattle.test_unify.proofs.equations.pairs_are_below.Given as goal

abbrev pub invariant-loop-i : goal.invariant-loop-i
invariant-loop-i l = PairsAreBelow l.count (take l.i l.pairs)
