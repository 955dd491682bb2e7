use Rattle.std.proofs.Common.{subst}
use Rattle.std.proofs.lemmas.List.{take_all}
use Rattle.unification.specs.Terms.{PairsAreBelow}
use Rattle.test_unify.proofs.Building.{pairs_more}
use Rattle.test_unify.proofs.equations.pairs_are_below.Goals as goal

pub loop-i-preserved : goal.loop-i-preserved
loop-i-preserved c = pairs_more c.args.count c.args.pairs.now c.loop-i.i _ c.loop-i-test.true
    c.if-pairs-i.false c.if-pairs-i-2.false c.loop-i.invariant

pub returns : goal.returns
returns c = λ e. subst (PairsAreBelow c.args.count)
    (take_all c.loop-i.i c.args.pairs.now c.loop-i-test.false) c.loop-i.invariant
