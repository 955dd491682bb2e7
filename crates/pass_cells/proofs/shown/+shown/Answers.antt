use Rattle.std.proofs.Common.{rules, ◌≤◌, length, take, subst}
use Rattle.pass_cells.proofs.Collected.{shown, store_done}
use Rattle.pass_ground.proofs.Walked.{StmtsSoFar, stmts_next, bind_done, block_done, arms_next, arms_done}
use Rattle.pass_cells.proofs.shown.+shown.Goals as goal

pub alts_shown-loop-alt-preserved : goal.alts_shown-loop-alt-preserved
alts_shown-loop-alt-preserved t c = arms_next shown _ _ _ _ _ _ c.loop-alt-test.true c.alt-item.is
    c.loop-alt.invariant c.in_ok-block_shown.ensures

pub alts_shown-returns : goal.alts_shown-returns
alts_shown-returns t c = arms_done shown _ _ _ _ c.loop-alt-test.false c.loop-alt.invariant

pub block_shown-loop-stmt-preserved : goal.block_shown-loop-stmt-preserved
block_shown-loop-stmt-preserved t c = stmts_next shown _ _ _ _ _ _ c.loop-stmt-test.true
    c.stmt-item.is c.loop-stmt.invariant c.in_ok-stmt_shown.ensures

pub block_shown-returns : goal.block_shown-returns
block_shown-returns t c =
    block_done shown c.args.words.now c.loop-stmt.words c.op_shown.new.words c.args.block.now
    c.loop-stmt.stmt-index
    (subst (λ ss. length ss ≤ c.loop-stmt.stmt-index) c.as_slice-stmt-items.ensures
    c.loop-stmt-test.false)
    (subst (λ ss. StmtsSoFar shown c.args.words.now c.loop-stmt.words
    (take c.loop-stmt.stmt-index ss)) c.as_slice-stmt-items.ensures c.loop-stmt.invariant)
    (search rules)

pub stmt_shown-returns-in_ok-op_shown-in-Bind : goal.stmt_shown-returns-in_ok-op_shown-in-Bind
stmt_shown-returns-in_ok-op_shown-in-Bind t c = λ b. bind_done shown c.args.words.now _
    c.args.stmt.now c.in-Bind.field-0 c.in-Bind.op b c.in-Bind.is c.in_ok-op_shown-in-Bind.ensures

pub stmt_shown-returns-in_ok-cells_shown-in-Store :
    goal.stmt_shown-returns-in_ok-cells_shown-in-Store
stmt_shown-returns-in_ok-cells_shown-in-Store t c = λ b. store_done c.args.words.now
    c.cells_shown.new.words c.args.stmt.now c.in-Store.cells b c.in-Store.is (search rules)
