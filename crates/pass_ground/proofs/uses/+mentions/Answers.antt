use Rattle.std.proofs.Common.{◌≤◌, length, take, subst, rules}
use Rattle.pass_ground.proofs.Mentions.{StmtsMention, stmts_next, block_use, arms_next, arms_used}
use Rattle.pass_ground.proofs.uses.+mentions.Goals as goal

pub alts_mention-loop-alt-preserved : goal.alts_mention-loop-alt-preserved
alts_mention-loop-alt-preserved t c = arms_next c.args.fetched c.args.x.0 c.args.alts.now
    c.loop-alt.alt-index c.alt-item.result _ _ _ c.loop-alt-test.true c.alt-item.is
    c.block_mentions.ensures c.either-used.ensures c.loop-alt.invariant

pub alts_mention-returns : goal.alts_mention-returns
alts_mention-returns t c = arms_used c.args.fetched c.args.x.0 c.args.alts.now c.loop-alt.alt-index
    _ c.loop-alt-test.false c.loop-alt.invariant

pub block_mentions-loop-stmt-preserved : goal.block_mentions-loop-stmt-preserved
block_mentions-loop-stmt-preserved t c = stmts_next c.args.fetched c.args.x.0 _ _ c.stmt-item.result
    _ _ _ c.loop-stmt-test.true c.stmt-item.is c.stmt_mentions.ensures c.either-used.ensures
    c.loop-stmt.invariant

pub block_mentions-returns : goal.block_mentions-returns
block_mentions-returns t c =
    block_use c.args.fetched c.args.x.0 c.args.block.now c.loop-stmt.stmt-index c.loop-stmt.used
    c.op_mentions.result c.either.result
    (subst (λ ss. length ss ≤ c.loop-stmt.stmt-index) c.as_slice-stmt-items.ensures
    c.loop-stmt-test.false)
    (subst (λ ss. StmtsMention c.args.fetched c.args.x.0 (take c.loop-stmt.stmt-index ss)
    c.loop-stmt.used) c.as_slice-stmt-items.ensures c.loop-stmt.invariant)
    (search rules) c.either.ensures
