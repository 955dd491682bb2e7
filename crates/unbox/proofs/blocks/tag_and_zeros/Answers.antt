use Rattle.unbox.proofs.Boxing.{one_more_zero}
use Rattle.unbox.proofs.blocks.tag_and_zeros.Goals as goal

pub loop-preserved : goal.loop-preserved
loop-preserved c = one_more_zero _ _ _ _ c.loop.invariant c.in_ok-push.ensures.ok
