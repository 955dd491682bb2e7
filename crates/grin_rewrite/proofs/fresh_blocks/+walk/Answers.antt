use Rattle.std.proofs.Common.{◌+◌, map, ap, sym, ◌∙◌, rules}
use Rattle.std.proofs.lemmas.Iterator.Adapters.{YieldsList-from_vec}
use Rattle.std.proofs.lemmas.Iterator.Consumers.{YieldsList-end}
use Rattle.seq.proofs.Lists.{map_same}
use Rattle.grin_syntax.specs.Tree.{arm_of, arms_of}
use Rattle.grin_rewrite.specs.Counted.{counted_all, all_room}
use Rattle.grin_rewrite.proofs.Leaves.{other_is_leaf}
use Rattle.grin_rewrite.proofs.CountedLoops.{one_more_stmt, store_done, store_room, bind_done, bind_room, block_done, block_room, one_more_arm, arms_done, arms_room_done, case_done, case_room, nested_done, nested_room}
use Rattle.grin_rewrite.proofs.fresh_blocks.+walk.Goals as goal

pub block-loop-stmt-preserved : goal.block-loop-stmt-preserved
block-loop-stmt-preserved g t c = one_more_stmt (g.R.FreshRule.rule c.args.rule.now)
    c.args.fresh.now.next c.loop-stmt.fresh.next _ c.loop-stmt.stmts _ c.loop-stmt.yielded
    c.in-Some.stmt c.loop-stmt.invariant c.in_ok-statement.ensures.is c.in_ok-statement.ensures.next

pub alternatives-loop-alt-preserved : goal.alternatives-loop-alt-preserved
alternatives-loop-alt-preserved g t c = one_more_arm (g.R.FreshRule.rule c.args.rule.now)
    c.args.fresh.now.next c.loop-alt.fresh.next _ c.loop-alt.made _ c.loop-alt.yielded c.in-Some.alt
    _ c.loop-alt.invariant (search rules) c.in_ok-block.ensures.is c.in_ok-block.ensures.next
    c.in_ok-push.ensures.ok

pub alternatives-returns-clause-is : goal.alternatives-returns-clause-is
alternatives-returns-clause-is g t c =
    let all = YieldsList-end (YieldsList-from_vec c.args.alts (search rules) (search rules))
    c.loop-alt.yielded c.loop-alt.alt-iterator c.loop-alt.yielded_by _ c.next.new.self
    c.in-None.is c.next.ensures.steps in
    arms_done (g.R.FreshRule.rule c.args.rule.now) c.args.fresh.now.next c.loop-alt.fresh.next
    c.loop-alt.made c.loop-alt.yielded c.loop-alt.invariant
    ∙ ap (λ l. counted_all (g.R.FreshRule.rule c.args.rule.now) c.args.fresh.now.next
    (arms_of (map arm_of l))) (sym (map_same c.loop-alt.yielded) ∙ all.0)

pub alternatives-returns-clause-next : goal.alternatives-returns-clause-next
alternatives-returns-clause-next g t c =
    let all = YieldsList-end (YieldsList-from_vec c.args.alts (search rules) (search rules))
    c.loop-alt.yielded c.loop-alt.alt-iterator c.loop-alt.yielded_by _ c.next.new.self
    c.in-None.is c.next.ensures.steps in
    arms_room_done (g.R.FreshRule.rule c.args.rule.now) c.args.fresh.now.next c.loop-alt.fresh.next
    c.loop-alt.made c.loop-alt.yielded c.loop-alt.invariant
    ∙ ap (λ l. c.args.fresh.now.next + all_room (g.R.FreshRule.rule c.args.rule.now)
    (arms_of (map arm_of l))) (sym (map_same c.loop-alt.yielded) ∙ all.0)

pub operation-leaf-requires : goal.operation-leaf-requires
operation-leaf-requires g t c = other_is_leaf c.args.op c.in_default.not-Case
    c.in_default.not-Nested

pub operation-returns-in_ok-made-in-Case-clause-is :
    goal.operation-returns-in_ok-made-in-Case-clause-is
operation-returns-in_ok-made-in-Case-clause-is g t c
    = case_done (g.R.FreshRule.rule c.args.rule.now) c.args.fresh.now.next c.args.before.now
    c.args.op c.in-Case.v c.in_ok-made-in-Case.made c.in-Case.alts c.in-Case.is
    c.in_ok-made-in-Case.ensures.is

pub operation-returns-in_ok-made-in-Case-clause-next
    : goal.operation-returns-in_ok-made-in-Case-clause-next
operation-returns-in_ok-made-in-Case-clause-next g t c
    = case_room (g.R.FreshRule.rule c.args.rule.now) c.args.fresh.now.next _ c.args.op c.in-Case.v
    c.in-Case.alts c.in-Case.is c.in_ok-made-in-Case.ensures.next

pub operation-returns-in_ok-new-in-Nested-clause-is
    : goal.operation-returns-in_ok-new-in-Nested-clause-is
operation-returns-in_ok-new-in-Nested-clause-is g t c
    = nested_done (g.R.FreshRule.rule c.args.rule.now) c.args.fresh.now.next c.args.before.now
    c.args.op c.in-Nested.inner c.in_ok-new-in-Nested.field-0 c.into_inner.result
    c.in_ok-made-in-Nested.made c.in-Nested.is c.into_inner.ensures
    c.in_ok-made-in-Nested.ensures.is c.in_ok-new-in-Nested.ensures.ok

pub operation-returns-in_ok-new-in-Nested-clause-next
    : goal.operation-returns-in_ok-new-in-Nested-clause-next
operation-returns-in_ok-new-in-Nested-clause-next g t c
    = nested_room (g.R.FreshRule.rule c.args.rule.now) c.args.fresh.now.next _ c.args.op
    c.in-Nested.inner c.into_inner.result c.in-Nested.is c.into_inner.ensures
    c.in_ok-made-in-Nested.ensures.next

pub statement-returns-in_ok-push-in-Store-clause-is
    : goal.statement-returns-in_ok-push-in-Store-clause-is
statement-returns-in_ok-push-in-Store-clause-is g t c
    = λ k. store_done (g.R.FreshRule.rule c.args.rule.now) c.args.fresh.now.next c.args.made.now
    c.push.new.self c.in-Store.cells c.args.stmt k c.in-Store.is c.in_ok-push-in-Store.ensures.ok

pub statement-returns-in_ok-push-in-Store-clause-next
    : goal.statement-returns-in_ok-push-in-Store-clause-next
statement-returns-in_ok-push-in-Store-clause-next g t c
    = λ k. store_room (g.R.FreshRule.rule c.args.rule.now) c.args.fresh.now.next c.in-Store.cells
    c.args.stmt k c.in-Store.is

pub statement-returns-in_ok-push-in-Bind-clause-is :
    goal.statement-returns-in_ok-push-in-Bind-clause-is
statement-returns-in_ok-push-in-Bind-clause-is g t c =
    λ k. bind_done (g.R.FreshRule.rule c.args.rule.now) c.args.fresh.now.next _ c.args.made.now _
    c.push-in-Bind.new.self c.in-Bind.target c.in-Bind.op c.in_ok-op-in-Bind.op c.args.stmt k
    c.in-Bind.is c.in_ok-op-in-Bind.ensures.is c.in_ok-op-in-Bind.ensures.next
    c.in_ok-push-in-Bind.ensures.ok

pub statement-returns-in_ok-push-in-Bind-clause-next
    : goal.statement-returns-in_ok-push-in-Bind-clause-next
statement-returns-in_ok-push-in-Bind-clause-next g t c
    = λ k. bind_room (g.R.FreshRule.rule c.args.rule.now) c.args.fresh.now.next _ c.in-Bind.target
    c.in-Bind.op c.args.stmt k c.in-Bind.is c.in_ok-op-in-Bind.ensures.next

pub block-returns-clause-is : goal.block-returns-clause-is
block-returns-clause-is g t c =
    let all = YieldsList-end (YieldsList-from_vec c.args.block.stmts (search rules) (search rules))
    c.loop-stmt.yielded c.loop-stmt.stmt-iterator c.loop-stmt.yielded_by _ c.next.new.self
    c.in-None.is c.next.ensures.steps in
    block_done (g.R.FreshRule.rule c.args.rule.now) c.args.fresh.now.next c.loop-stmt.fresh.next
    c.args.block _ c.loop-stmt.stmts c.loop-stmt.yielded _ c.into_inner.result c.in_ok-last.last
    c.loop-stmt.invariant (sym (map_same c.loop-stmt.yielded) ∙ all.0) c.into_inner.ensures
    c.in_ok-last.ensures.is (search rules) c.in_ok-new.ensures.ok

pub block-returns-clause-next : goal.block-returns-clause-next
block-returns-clause-next g t c =
    let all = YieldsList-end (YieldsList-from_vec c.args.block.stmts (search rules) (search rules))
    c.loop-stmt.yielded c.loop-stmt.stmt-iterator c.loop-stmt.yielded_by _ c.next.new.self
    c.in-None.is c.next.ensures.steps in
    block_room (g.R.FreshRule.rule c.args.rule.now) c.args.fresh.now.next c.loop-stmt.fresh.next _
    c.args.block c.loop-stmt.stmts c.loop-stmt.yielded c.into_inner.result c.loop-stmt.invariant
    (sym (map_same c.loop-stmt.yielded) ∙ all.0) c.into_inner.ensures c.in_ok-last.ensures.next
