use Rattle.vectorise.proofs.Loops.{one_more_widens}
use Rattle.vectorise.proofs.blocks.Vectors.+widen.Goals as goal

pub block-loop-stmt-preserved : goal.block-loop-stmt-preserved
block-loop-stmt-preserved t c =
    rw c.in_ok-push.ensures.ok
    (one_more_widens _ _ _ _ _ _ c.loop-stmt.invariant c.in_ok-stmt.ensures)
