use Rattle.std.proofs.Common.{◌≤◌, length, take, subst, rules}
use Rattle.grin_syntax.proofs.Past.{StmtsPast, stmts_next, block_past, arms_next, arms_past}
use Rattle.grin_syntax.proofs.fresh.+past.Goals as goal

pub past_alts-loop-alt-preserved : goal.past_alts-loop-alt-preserved
past_alts-loop-alt-preserved t c =
    arms_next c.args.alts.now c.loop-alt.alt-index c.alt-item.result _ _ _ _ _ c.loop-alt-test.true
    c.alt-item.is c.past_shape.ensures c.past_block.ensures c.max-one.ensures c.max-past.ensures
    c.loop-alt.invariant

pub past_alts-returns : goal.past_alts-returns
past_alts-returns t c = arms_past c.args.alts.now c.loop-alt.alt-index _ c.loop-alt-test.false
    c.loop-alt.invariant

pub past_block-loop-stmt-preserved : goal.past_block-loop-stmt-preserved
past_block-loop-stmt-preserved t c = stmts_next _ _ c.stmt-item.result _ _ _ c.loop-stmt-test.true
    c.stmt-item.is c.max-past.ensures c.loop-stmt.invariant c.past_stmt.ensures

pub past_block-returns : goal.past_block-returns
past_block-returns t c =
    block_past c.args.block.now c.loop-stmt.stmt-index c.loop-stmt.past c.past_op.result
    c.max.result
    (subst (λ ss. length ss ≤ c.loop-stmt.stmt-index) c.as_slice-stmt-items.ensures
    c.loop-stmt-test.false)
    (subst (λ ss. StmtsPast (take c.loop-stmt.stmt-index ss) c.loop-stmt.past)
    c.as_slice-stmt-items.ensures c.loop-stmt.invariant)
    (search rules) c.max.ensures
