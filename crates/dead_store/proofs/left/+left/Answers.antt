use Rattle.std.proofs.Common.{rules, ◌≤◌, length, take, subst}
use Rattle.dead_store.specs.Holding.{set_holds}
use Rattle.dead_store.proofs.Collected.{left, store_done}
use Rattle.pass_ground.proofs.Walked.{StmtsSoFar, stmts_next, bind_done, block_done, arms_next, arms_done}
use Rattle.dead_store.proofs.left.+left.Goals as goal

pub alts_left-loop-alt-preserved : goal.alts_left-loop-alt-preserved
alts_left-loop-alt-preserved t c = arms_next (left (set_holds c.args.sites.now.keys)) _ _ _ _ _ _
    c.loop-alt-test.true c.alt-item.is c.loop-alt.invariant c.in_ok-block_left.ensures

pub alts_left-returns : goal.alts_left-returns
alts_left-returns t c = arms_done (left (set_holds c.args.sites.now.keys)) _ _ _ _
    c.loop-alt-test.false c.loop-alt.invariant

pub block_left-loop-stmt-preserved : goal.block_left-loop-stmt-preserved
block_left-loop-stmt-preserved t c = stmts_next (left (set_holds c.args.sites.now.keys)) _ _ _ _ _ _
    c.loop-stmt-test.true c.stmt-item.is c.loop-stmt.invariant c.in_ok-stmt_left.ensures

pub block_left-returns : goal.block_left-returns
block_left-returns t c =
    let L = left (set_holds c.args.sites.now.keys) in
    block_done L c.args.left.now c.loop-stmt.left c.op_left.new.left c.args.block.now
    c.loop-stmt.stmt-index
    (subst (λ ss. length ss ≤ c.loop-stmt.stmt-index) c.as_slice-stmt-items.ensures
    c.loop-stmt-test.false)
    (subst (λ ss. StmtsSoFar L c.args.left.now c.loop-stmt.left (take c.loop-stmt.stmt-index ss))
    c.as_slice-stmt-items.ensures c.loop-stmt.invariant)
    (search rules)

pub stmt_left-returns-in_ok-op_left-in-Bind : goal.stmt_left-returns-in_ok-op_left-in-Bind
stmt_left-returns-in_ok-op_left-in-Bind t c = λ b. bind_done
    (left (set_holds c.args.sites.now.keys)) c.args.left.now _ c.args.stmt.now c.in-Bind.field-0
    c.in-Bind.op b c.in-Bind.is c.in_ok-op_left-in-Bind.ensures

pub stmt_left-returns-in_ok-group_left-in-Store : goal.stmt_left-returns-in_ok-group_left-in-Store
stmt_left-returns-in_ok-group_left-in-Store t c = λ b. store_done (set_holds c.args.sites.now.keys)
    c.args.left.now _ c.args.stmt.now c.in-Store.cells b c.in-Store.is (search rules)
