use Rattle.std.proofs.Common.{rules, ◌≡◌, ◌++◌, refl, sym, ap, ◌∙◌}
use Rattle.grin_syntax.specs.Tree.{act_of}
use Rattle.grin_syntax.proofs.TreeOf.{act_of-Unit, act_of-Fetch, act_of-FetchWord, act_of-Update, act_of-Eval, act_of-Apply, act_of-Prim, act_of-Read, act_of-Write, act_of-Fail}
use Rattle.unbox.specs.Ties.{act_called}
use Rattle.unbox.proofs.Loops.{block_called_last}
use Rattle.unbox.proofs.SoFar.{called_next, called_done, leaf_called}
use Rattle.unbox.proofs.ties.+called.Goals as goal

pub alts_called-loop-alt-preserved : goal.alts_called-loop-alt-preserved
alts_called-loop-alt-preserved t c = called_next _ _ _ _ _ _ c.loop-alt-test.true c.alt-item.is
    c.in_ok-block_called.ensures c.loop-alt.invariant

pub alts_called-returns : goal.alts_called-returns
alts_called-returns t c = called_done _ _ _ _ c.loop-alt-test.false c.loop-alt.invariant

pub block_called-returns : goal.block_called-returns
block_called-returns t c =
    let e : c.op_called.new.out ≡ c.args.out.now ++ act_called (act_of c.args.block.now.last.value)
    = search rules in
    e ∙ ap (λ l. c.args.out.now ++ l) (sym (block_called_last c.args.block.now))

pub op_called-returns-in-Unit : goal.op_called-returns-in-Unit
unfolding act_called
op_called-returns-in-Unit t c = leaf_called _ _ _ _ c.in-Unit.is (act_of-Unit _) refl

pub op_called-returns-in-Fetch : goal.op_called-returns-in-Fetch
unfolding act_called
op_called-returns-in-Fetch t c = leaf_called _ _ _ _ c.in-Fetch.is (act_of-Fetch _) refl

pub op_called-returns-in-FetchWord : goal.op_called-returns-in-FetchWord
unfolding act_called
op_called-returns-in-FetchWord t c = leaf_called _ _ _ _ c.in-FetchWord.is (act_of-FetchWord _ _)
    refl

pub op_called-returns-in-Update : goal.op_called-returns-in-Update
unfolding act_called
op_called-returns-in-Update t c = leaf_called _ _ _ _ c.in-Update.is (act_of-Update _ _) refl

pub op_called-returns-in-Eval : goal.op_called-returns-in-Eval
unfolding act_called
op_called-returns-in-Eval t c = leaf_called _ _ _ _ c.in-Eval.is (act_of-Eval _) refl

pub op_called-returns-in-Apply : goal.op_called-returns-in-Apply
unfolding act_called
op_called-returns-in-Apply t c = leaf_called _ _ _ _ c.in-Apply.is (act_of-Apply _ _) refl

pub op_called-returns-in-Prim : goal.op_called-returns-in-Prim
unfolding act_called
op_called-returns-in-Prim t c = leaf_called _ _ _ _ c.in-Prim.is (act_of-Prim _ _ _) refl

pub op_called-returns-in-Read : goal.op_called-returns-in-Read
unfolding act_called
op_called-returns-in-Read t c = leaf_called _ _ _ _ c.in-Read.is act_of-Read refl

pub op_called-returns-in-Write : goal.op_called-returns-in-Write
unfolding act_called
op_called-returns-in-Write t c = leaf_called _ _ _ _ c.in-Write.is (act_of-Write _) refl

pub op_called-returns-in-Fail : goal.op_called-returns-in-Fail
unfolding act_called
op_called-returns-in-Fail t c = leaf_called _ _ _ _ c.in-Fail.is act_of-Fail refl
