use Rattle.std.proofs.Common.{sym, subst}
use Rattle.unification.specs.Terms.{AreEarlier}
use Rattle.test_unify.proofs.Building.{earlier_none}
use Rattle.test_unify.proofs.equations.terms_of.Goals as goal

pub loop-i-init : goal.loop-i-init
loop-i-init c = subst AreEarlier (sym c.new-terms.ensures.items) earlier_none
