use Rattle.unification.specs.Terms.{AreEarlier}
use Rattle.test_unify.proofs.equations.towers.Given as goal

abbrev pub invariant-loop-i : goal.invariant-loop-i
invariant-loop-i l = AreEarlier l.terms.items
