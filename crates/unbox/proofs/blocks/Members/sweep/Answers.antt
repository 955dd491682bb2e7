use Rattle.unbox.proofs.Rounding.{none_heeded}
use Rattle.unbox.proofs.Sweeping.{heeded_next, heeded_done}
use Rattle.unbox.proofs.blocks.Members.sweep.Goals as goal

pub loop-tie-init : goal.loop-tie-init
loop-tie-init c = none_heeded _

pub loop-tie-preserved : goal.loop-tie-preserved
loop-tie-preserved c = heeded_next _ _ _ _ _ _ _ _ _ c.loop-tie-test.true c.tie-item.is
    c.heed.ensures c.either-changed.ensures c.loop-tie.invariant

pub returns : goal.returns
returns c = heeded_done _ _ _ _ _ c.loop-tie-test.false c.loop-tie.invariant
