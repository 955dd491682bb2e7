use Rattle.std.proofs.Common.{rules, ◌≤◌, length, take, subst}
use Rattle.flow_system.proofs.SoFar.{EvalsSoFar, statement_next, alternative_next, block_done, alternatives_done}
use Rattle.flow_system.proofs.system.+evals.Goals as goal

pub arms_eval-loop-alt-preserved : goal.arms_eval-loop-alt-preserved
arms_eval-loop-alt-preserved t c = alternative_next _ _ _ _ _ _ c.loop-alt-test.true c.alt-item.is
    c.either-found.ensures c.loop-alt.invariant c.block_evals.ensures

pub arms_eval-returns : goal.arms_eval-returns
arms_eval-returns t c = alternatives_done _ _ _ c.loop-alt-test.false c.loop-alt.invariant

pub block_evals-loop-stmt-preserved : goal.block_evals-loop-stmt-preserved
block_evals-loop-stmt-preserved t c = statement_next _ _ _ _ _ _ c.loop-stmt-test.true
    c.stmt-item.is c.either-found.ensures c.loop-stmt.invariant c.stmt_evals.ensures

pub block_evals-returns : goal.block_evals-returns
block_evals-returns t c =
    block_done c.args.block.now c.loop-stmt.stmt-index c.loop-stmt.found c.op_evals.result
    c.either.result
    (subst (λ ss. length ss ≤ c.loop-stmt.stmt-index) c.as_slice-stmt-items.ensures
    c.loop-stmt-test.false)
    (subst (λ ss. EvalsSoFar (take c.loop-stmt.stmt-index ss) c.loop-stmt.found)
    c.as_slice-stmt-items.ensures c.loop-stmt.invariant)
    (search rules) c.either.ensures
