use Rattle.std.proofs.Common.{rules, ◌≤◌, length, take, refl, subst}
use Rattle.grin_syntax.proofs.TreeOf.{act_of-Unit, act_of-Fetch, act_of-FetchWord, act_of-Update, act_of-Eval, act_of-Apply, act_of-Call, act_of-Prim, act_of-Read, act_of-Write, act_of-Fail}
use Rattle.points_to.specs.Found.{found}
use Rattle.unbox.specs.Ties.{act_ties}
use Rattle.unbox.proofs.SoFar.{TiesFound, arm_ties_next, arm_ties_done, ties_next, ties_done, bind_ties, leaf_ties}
use Rattle.unbox.proofs.ties.+ties.Goals as goal

pub alts_ties-loop-alt-preserved : goal.alts_ties-loop-alt-preserved
alts_ties-loop-alt-preserved t c = arm_ties_next (found c.args.flow.now) _ _ _ _ _ _
    c.loop-alt-test.true c.alt-item.is c.in_ok-block_ties.ensures c.loop-alt.invariant

pub alts_ties-returns : goal.alts_ties-returns
alts_ties-returns t c = arm_ties_done (found c.args.flow.now) _ _ _ _ c.loop-alt-test.false
    c.loop-alt.invariant

pub block_ties-loop-stmt-preserved : goal.block_ties-loop-stmt-preserved
block_ties-loop-stmt-preserved t c = ties_next (found c.args.flow.now) _ _ _ _ _ _
    c.loop-stmt-test.true c.stmt-item.is c.loop-stmt.invariant c.in_ok-stmt_ties.ensures

pub block_ties-returns : goal.block_ties-returns
block_ties-returns t c =
    let A = found c.args.flow.now in
    ties_done A c.args.out.now c.loop-stmt.out c.op_ties.new.out c.args.block.now
    c.loop-stmt.stmt-index
    (subst (λ ss. length ss ≤ c.loop-stmt.stmt-index) c.as_slice-stmt-items.ensures
    c.loop-stmt-test.false)
    (subst (λ ss. TiesFound A c.args.out.now c.loop-stmt.out (take c.loop-stmt.stmt-index ss))
    c.as_slice-stmt-items.ensures c.loop-stmt.invariant)
    (search rules)

pub op_ties-returns-in-Unit : goal.op_ties-returns-in-Unit
unfolding act_ties
op_ties-returns-in-Unit t c = leaf_ties (found c.args.flow.now) _ _ _ _ c.in-Unit.is (act_of-Unit _)
    refl

pub op_ties-returns-in-Fetch : goal.op_ties-returns-in-Fetch
unfolding act_ties
op_ties-returns-in-Fetch t c = leaf_ties (found c.args.flow.now) _ _ _ _ c.in-Fetch.is
    (act_of-Fetch _) refl

pub op_ties-returns-in-FetchWord : goal.op_ties-returns-in-FetchWord
unfolding act_ties
op_ties-returns-in-FetchWord t c = leaf_ties (found c.args.flow.now) _ _ _ _ c.in-FetchWord.is
    (act_of-FetchWord _ _) refl

pub op_ties-returns-in-Update : goal.op_ties-returns-in-Update
unfolding act_ties
op_ties-returns-in-Update t c = leaf_ties (found c.args.flow.now) _ _ _ _ c.in-Update.is
    (act_of-Update _ _) refl

pub op_ties-returns-in-Eval : goal.op_ties-returns-in-Eval
unfolding act_ties
op_ties-returns-in-Eval t c = leaf_ties (found c.args.flow.now) _ _ _ _ c.in-Eval.is (act_of-Eval _)
    refl

pub op_ties-returns-in-Apply : goal.op_ties-returns-in-Apply
unfolding act_ties
op_ties-returns-in-Apply t c = leaf_ties (found c.args.flow.now) _ _ _ _ c.in-Apply.is
    (act_of-Apply _ _) refl

pub op_ties-returns-in-Call : goal.op_ties-returns-in-Call
unfolding act_ties
op_ties-returns-in-Call t c = leaf_ties (found c.args.flow.now) _ _ _ _ c.in-Call.is
    (act_of-Call _ _) refl

pub op_ties-returns-in-Prim : goal.op_ties-returns-in-Prim
unfolding act_ties
op_ties-returns-in-Prim t c = leaf_ties (found c.args.flow.now) _ _ _ _ c.in-Prim.is
    (act_of-Prim _ _ _) refl

pub op_ties-returns-in-Read : goal.op_ties-returns-in-Read
unfolding act_ties
op_ties-returns-in-Read t c = leaf_ties (found c.args.flow.now) _ _ _ _ c.in-Read.is act_of-Read
    refl

pub op_ties-returns-in-Write : goal.op_ties-returns-in-Write
unfolding act_ties
op_ties-returns-in-Write t c = leaf_ties (found c.args.flow.now) _ _ _ _ c.in-Write.is
    (act_of-Write _) refl

pub op_ties-returns-in-Fail : goal.op_ties-returns-in-Fail
unfolding act_ties
op_ties-returns-in-Fail t c = leaf_ties (found c.args.flow.now) _ _ _ _ c.in-Fail.is act_of-Fail
    refl

pub stmt_ties-returns-in_ok-op_ties-in-Bind : goal.stmt_ties-returns-in_ok-op_ties-in-Bind
stmt_ties-returns-in_ok-op_ties-in-Bind t c =
    bind_ties (found c.args.flow.now) _ _ _ _ _ _ _ _ _ c.in-Bind.is c.op_ints.ensures
    c.new-procs.ensures c.in_ok-op_called-in-Bind.ensures c.in_ok-push-in-Bind.ensures.ok
    c.in_ok-op_ties-in-Bind.ensures
