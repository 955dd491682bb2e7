use Rattle.std.proofs.Common.{rules, sym, ◌∙◌, subst}
use Rattle.seq.proofs.Lists.{take_next}
use Rattle.low_translate.proofs.Operations.{end_alone, plain_first, plain_second, plain_third, stmts_next, block_is, plain_act, plain_end_act, case_done, nested_done, case_ends, nested_ends, store_done, bind_done, stmts_then, block_done, whole_block}
use Rattle.low_translate.proofs.Alternatives.{ArmsSoFar, no_items, all_items, choice_is, choice_with, one_arm_more, arms_done, no_arms_done}
use Rattle.low_translate.proofs.blocks.LoweringPlan.+blocks.Goals as goal
use Rattle.seq.proofs.Results.{ok_follows}

pub act-returns-in_ok-join-in-Case : goal.act-returns-in_ok-join-in-Case
act-returns-in_ok-join-in-Case t c = case_done c.args.self.now.width c.args.self.now.results.now
    c.args.numbers.now.next _ c.args.vars.now _ c.in-Case.v c.in-Case.alts _ _ _ _ _ _ c.in-Case.is
    c.as_slice.ensures (c.as_slice-in-Case.ensures ∙ c.in_ok-words-in-Case.ensures.is)
    c.in_ok-words-in-Case.ensures.ranged c.in_ok-last-in-Case.ensures
    (end_alone _ c.new-stmts.ensures) c.in_ok-join-in-Case.ensures

pub act-returns-in_ok-join-in-Nested : goal.act-returns-in_ok-join-in-Nested
act-returns-in_ok-join-in-Nested t c = nested_done c.args.self.now.width c.args.self.now.results.now
    c.args.numbers.now.next _ c.args.vars.now _ c.in-Nested.block _ _ _ _ c.in-Nested.is
    c.deref.ensures
    (whole_block _ _ _ _ _ _ _ _ c.new-stmts-in-Nested.ensures c.in_ok-last-in-Nested.ensures)
    c.in_ok-join-in-Nested.ensures

pub act-returns-in_ok-plain-in-Unit : goal.act-returns-in_ok-plain-in-Unit
act-returns-in_ok-plain-in-Unit t c = plain_act c.args.self.now.width c.args.self.now.results.now
    c.args.numbers.now.next _ c.args.vars.now _ _ _ (plain_first _ c.in-Unit.is)
    c.in_ok-plain-in-Unit.ensures

pub act-returns-in_ok-plain-in-Apply : goal.act-returns-in_ok-plain-in-Apply
act-returns-in_ok-plain-in-Apply t c = plain_act c.args.self.now.width c.args.self.now.results.now
    c.args.numbers.now.next _ c.args.vars.now _ _ _ (plain_second _ c.in-Apply.is)
    c.in_ok-plain-in-Apply.ensures

pub act-returns-in_ok-plain-in-Write : goal.act-returns-in_ok-plain-in-Write
act-returns-in_ok-plain-in-Write t c = plain_act c.args.self.now.width c.args.self.now.results.now
    c.args.numbers.now.next _ c.args.vars.now _ _ _ (plain_third _ c.in-Write.is)
    c.in_ok-plain-in-Write.ensures

pub end-returns-in_ok-words-in-Case : goal.end-returns-in_ok-words-in-Case
end-returns-in_ok-words-in-Case t c = ok_follows _ _ c.choice.result
    (λ e h. case_ends c.args.self.now.width c.args.self.now.results.now c.args.numbers.now.next _
    c.args.goal _ c.in-Case.v c.in-Case.alts _ _ _ _ c.in-Case.is c.as_slice.ensures
    (c.as_slice-in-Case.ensures ∙ c.in_ok-words-in-Case.ensures.is)
    c.in_ok-words-in-Case.ensures.ranged h) c.choice.ensures

pub end-returns-in-Nested : goal.end-returns-in-Nested
end-returns-in-Nested t c = ok_follows _ _ c.rest.result
    (λ e h. nested_ends c.args.self.now.width c.args.self.now.results.now c.args.numbers.now.next _
    c.args.goal _ c.in-Nested.block _ _ _ _ c.in-Nested.is c.deref.ensures h) c.rest.ensures

pub end-returns-in-Unit : goal.end-returns-in-Unit
end-returns-in-Unit t c = ok_follows _ _ c.plain_end-in-Unit.result
    (λ e h. plain_end_act c.args.self.now.width c.args.self.now.results.now c.args.numbers.now.next
    _ c.args.goal _ _ _ _ (plain_first _ c.in-Unit.is) h) c.plain_end-in-Unit.ensures

pub end-returns-in-Apply : goal.end-returns-in-Apply
end-returns-in-Apply t c = ok_follows _ _ c.plain_end-in-Apply.result
    (λ e h. plain_end_act c.args.self.now.width c.args.self.now.results.now c.args.numbers.now.next
    _ c.args.goal _ _ _ _ (plain_second _ c.in-Apply.is) h) c.plain_end-in-Apply.ensures

pub end-returns-in-Write : goal.end-returns-in-Write
end-returns-in-Write t c = ok_follows _ _ c.plain_end.result
    (λ e h. plain_end_act c.args.self.now.width c.args.self.now.results.now c.args.numbers.now.next
    _ c.args.goal _ _ _ _ (plain_third _ c.in-Write.is) h) c.plain_end.ensures

pub rest-loop-stmt-preserved : goal.rest-loop-stmt-preserved
rest-loop-stmt-preserved t c = stmts_then c.args.self.now.width c.args.self.now.results.now
    c.args.numbers.now.next _ _ _ _ _ _ _ _ c.loop-stmt.invariant c.in_ok-stmt.ensures
    (stmts_next c.as_slice-stmt-items.result.now c.loop-stmt.stmt-index c.stmt-item.result
    c.loop-stmt-test.true c.stmt-item.is)

pub rest-returns : goal.rest-returns
rest-returns t c = ok_follows _ _ c.end.result
    (λ e h. block_done c.args.self.now.width c.args.self.now.results.now c.args.numbers.now.next _ _
    c.args.goal c.args.block.now _ _ _ _ _ _ c.loop-stmt.invariant h
    (block_is c.args.block.now c.as_slice-stmt-items.result.now c.loop-stmt.stmt-index _
    c.loop-stmt-test.false c.as_slice-stmt-items.ensures c.deref.ensures)) c.end.ensures

pub choice-loop-alt-preserved : goal.choice-loop-alt-preserved
choice-loop-alt-preserved t c = subst
    (ArmsSoFar c.args.self.now.width c.args.self.now.results.now c.args.goal c.args.words.now
    c.args.numbers.now.next c.rest.new.numbers.next c.push.new.self)
    (sym (take_next _ c.loop-alt.alt-index c.alt-item.result c.loop-alt-test.true c.alt-item.is))
    (one_arm_more c.args.self.now.width c.args.self.now.results.now c.args.goal c.args.words.now
    c.args.numbers.now.next c.loop-alt.numbers.next _ c.loop-alt.arms _ _ c.alt-item.result _
    c.loop-alt.invariant c.in_ok-tests.ensures.is c.in_ok-tests.ensures.ranged
    (whole_block _ _ _ _ _ _ _ _ c.new-stmts.ensures c.in_ok-last.ensures)
    c.in_ok-push.ensures.ok)

pub choice-returns-in_default : goal.choice-returns-in_default
choice-returns-in_default t c = no_arms_done c.args.self.now.width c.args.self.now.results.now
    c.args.goal c.args.words.now c.args.numbers.now.next c.args.alts.now _
    (no_items c.args.alts.now (search rules))
    (choice_is _ c.in_ok-new.field-0 _ (c.arms.view_is ∙ c.new-arms.ensures)
    (c.in_ok-new.ensures.ok) c.failing.ensures)

pub choice-returns : goal.choice-returns
choice-returns t c = arms_done c.args.self.now.width c.args.self.now.results.now c.args.goal
    c.args.words.now c.args.numbers.now.next c.loop-alt.numbers.next _ c.loop-alt.arms _
    c.args.alts.now c.last-item.result _ _ c.loop-alt.invariant
    (whole_block _ _ _ _ _ _ _ _ c.new-stmts-2.ensures c.in_ok-last-2.ensures)
    (all_items c.args.alts.now c.loop-alt.alt-index c.last-item.result (search rules)
    c.last-item.is c.loop-alt-test.false)
    (choice_with c.loop-alt.arms c.in_ok-otherwise.otherwise _ c.in_ok-otherwise.ensures.ok)

pub stmt-returns-in_ok-store-in-Store : goal.stmt-returns-in_ok-store-in-Store
stmt-returns-in_ok-store-in-Store t c = store_done c.args.self.now.width c.args.self.now.results.now
    c.args.numbers.now.next _ c.in-Store.cells _ _ c.in-Store.is (search rules) (search rules)

pub stmt-returns-in_ok-act-in-Bind : goal.stmt-returns-in_ok-act-in-Bind
stmt-returns-in_ok-act-in-Bind t c = bind_done c.args.self.now.width c.args.self.now.results.now
    c.args.numbers.now.next _ _ c.in-Bind.target c.in-Bind.op _ _ _ c.in-Bind.is
    (c.as_slice-in-Bind.ensures ∙ c.in_ok-vars-in-Bind.ensures) c.in_ok-act-in-Bind.ensures
