use Rattle.std.proofs.Common.{rules, ◌≤◌, length, take, subst}
use Rattle.dead_store.proofs.Collected.{reads}
use Rattle.pass_ground.proofs.Walked.{StmtsSoFar, stmts_next, bind_done, block_done, arms_next, arms_done}
use Rattle.dead_store.proofs.reads.+reads.Goals as goal

pub alts_read-loop-alt-preserved : goal.alts_read-loop-alt-preserved
alts_read-loop-alt-preserved t c = arms_next (reads c.args.updates_count) _ _ _ _ _ _
    c.loop-alt-test.true c.alt-item.is c.loop-alt.invariant c.in_ok-block_reads.ensures

pub alts_read-returns : goal.alts_read-returns
alts_read-returns t c = arms_done (reads c.args.updates_count) _ _ _ _ c.loop-alt-test.false
    c.loop-alt.invariant

pub block_reads-loop-stmt-preserved : goal.block_reads-loop-stmt-preserved
block_reads-loop-stmt-preserved t c = stmts_next (reads c.args.updates_count) _ _ _ _ _ _
    c.loop-stmt-test.true c.stmt-item.is c.loop-stmt.invariant c.in_ok-stmt_reads.ensures

pub block_reads-returns : goal.block_reads-returns
block_reads-returns t c =
    block_done (reads c.args.updates_count) c.args.words.now c.loop-stmt.words c.op_reads.new.words
    c.args.block.now c.loop-stmt.stmt-index
    (subst (λ ss. length ss ≤ c.loop-stmt.stmt-index) c.as_slice-stmt-items.ensures
    c.loop-stmt-test.false)
    (subst (λ ss. StmtsSoFar (reads c.args.updates_count) c.args.words.now c.loop-stmt.words
    (take c.loop-stmt.stmt-index ss)) c.as_slice-stmt-items.ensures c.loop-stmt.invariant)
    (search rules)

pub stmt_reads-returns-in_ok-op_reads-in-Bind : goal.stmt_reads-returns-in_ok-op_reads-in-Bind
stmt_reads-returns-in_ok-op_reads-in-Bind t c = λ b. bind_done (reads c.args.updates_count)
    c.args.words.now _ c.args.stmt.now c.in-Bind.field-0 c.in-Bind.op b c.in-Bind.is
    c.in_ok-op_reads-in-Bind.ensures
