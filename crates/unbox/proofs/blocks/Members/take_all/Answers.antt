use Rattle.unbox.proofs.Rounding.{nothing_taken}
use Rattle.unbox.proofs.Sweeping.{taken_next, taken_done}
use Rattle.unbox.proofs.blocks.Members.take_all.Goals as goal

pub loop-f-init : goal.loop-f-init
loop-f-init c = nothing_taken _

pub loop-f-preserved : goal.loop-f-preserved
loop-f-preserved c = taken_next _ _ _ _ _ _ _ _ _ c.loop-f-test.true c.take_out.ensures
    c.either-changed.ensures c.loop-f.invariant

pub returns : goal.returns
returns c = taken_done _ _ _ _ _ c.loop-f-test.false c.loop-f.invariant
