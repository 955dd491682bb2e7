use Rattle.dead_store.proofs.Numbers.{has_none, one_more, has_all}
use Rattle.dead_store.proofs.left.set_of.Goals as goal

pub loop-n-init : goal.loop-n-init
loop-n-init c = has_none _ c.new-set.ensures.empty

pub loop-n-preserved : goal.loop-n-preserved
loop-n-preserved c = one_more _ _ _ _ _ c.loop-n-test.true c.in_ok-insert.ensures.keys
    c.loop-n.invariant

pub returns : goal.returns
returns c = has_all _ _ _ c.loop-n-test.false c.loop-n.invariant
