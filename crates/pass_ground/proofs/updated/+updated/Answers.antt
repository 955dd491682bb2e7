use Rattle.std.proofs.Common.{rules, ◌≤◌, length, take, subst}
use Rattle.pass_ground.proofs.Collected.{updated}
use Rattle.pass_ground.proofs.Walked.{StmtsSoFar, stmts_next, bind_done, block_done, arms_next, arms_done}
use Rattle.pass_ground.proofs.updated.+updated.Goals as goal

pub alts_updated-loop-alt-preserved : goal.alts_updated-loop-alt-preserved
alts_updated-loop-alt-preserved t c = arms_next updated _ _ _ _ _ _ c.loop-alt-test.true
    c.alt-item.is c.loop-alt.invariant c.in_ok-block_updated.ensures

pub alts_updated-returns : goal.alts_updated-returns
alts_updated-returns t c = arms_done updated _ _ _ _ c.loop-alt-test.false c.loop-alt.invariant

pub block_updated-loop-stmt-preserved : goal.block_updated-loop-stmt-preserved
block_updated-loop-stmt-preserved t c = stmts_next updated _ _ _ _ _ _ c.loop-stmt-test.true
    c.stmt-item.is c.loop-stmt.invariant c.in_ok-stmt_updated.ensures

pub block_updated-returns : goal.block_updated-returns
block_updated-returns t c =
    block_done updated c.args.words.now c.loop-stmt.words c.op_updated.new.words c.args.block.now
    c.loop-stmt.stmt-index
    (subst (λ ss. length ss ≤ c.loop-stmt.stmt-index) c.as_slice-stmt-items.ensures
    c.loop-stmt-test.false)
    (subst (λ ss. StmtsSoFar updated c.args.words.now c.loop-stmt.words
    (take c.loop-stmt.stmt-index ss)) c.as_slice-stmt-items.ensures c.loop-stmt.invariant)
    (search rules)

pub stmt_updated-returns-in_ok-op_updated-in-Bind :
    goal.stmt_updated-returns-in_ok-op_updated-in-Bind
stmt_updated-returns-in_ok-op_updated-in-Bind t c = λ b. bind_done updated c.args.words.now _
    c.args.stmt.now c.in-Bind.field-0 c.in-Bind.op b c.in-Bind.is c.in_ok-op_updated-in-Bind.ensures
