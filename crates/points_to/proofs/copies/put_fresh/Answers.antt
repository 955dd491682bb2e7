use Rattle.points_to.proofs.CopiesSound.{within_next}
use Rattle.points_to.proofs.copies.put_fresh.Goals as goal

pub loop-block-preserved : goal.loop-block-preserved
loop-block-preserved c = within_next _ _ _ _ _ _ c.loop-block-test.true c.loop-block.invariant
    c.in_ok-put_left.ensures
