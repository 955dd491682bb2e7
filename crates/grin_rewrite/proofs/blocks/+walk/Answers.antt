use Rattle.grin_rewrite.proofs.Loops.{one_more_becomes}
use Rattle.grin_rewrite.proofs.Leaves.{other_is_leaf}
use Rattle.grin_rewrite.proofs.blocks.+walk.Goals as goal

pub block-loop-stmt-preserved : goal.block-loop-stmt-preserved
block-loop-stmt-preserved g t c =
    rw c.in_ok-push.ensures.ok
    (one_more_becomes _ _ _ _ _ c.loop-stmt.invariant c.in_ok-statement.ensures)

pub operation-leaf-requires : goal.operation-leaf-requires
operation-leaf-requires g t c = other_is_leaf c.args.op c.in_default.not-Case
    c.in_default.not-Nested
