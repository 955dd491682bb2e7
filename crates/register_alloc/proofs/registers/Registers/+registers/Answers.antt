use Rattle.std.proofs.Common.{◌≡◌, ◌≤◌, ◌+◌, length, map, IfOk, refl, sym, ap, ◌∙◌, subst, rules}
use Rattle.std.proofs.lemmas.Option.{slice_get_read}
use Rattle.low_code.specs.Tree.{join, give, tail, choose, code_of, before_of, end_of, arm_of, arms_before}
use Rattle.low_code.proofs.TreeOf.{code_of-parts, before_of-Save, before_of-Put, before_of-Join, end_of-Give, end_of-Tail, end_of-Choose, end_of-Fail}
use Rattle.low_code.specs.Formed.{used_by_tests}
use Rattle.register_alloc.specs.Point.{WalksStatement, WalksBlock}
use Rattle.register_alloc.proofs.Steps.{StmtsDone, does_next, does_nothing, ends_block, no_arm_yet, next_arm_done, arms_all_done, does_arm, does_join, ends_choice, ends_fail}
use Rattle.register_alloc.proofs.registers.Registers.+registers.Goals as goal

pub arms-loop-arm-init : goal.arms-loop-arm-init
arms-loop-arm-init t c = no_arm_yet c.args.text.now 0 c.args.arms.now c.args.self.now
    c.args.holders.now.of.items

pub arms-loop-arm-preserved : goal.arms-loop-arm-preserved
arms-loop-arm-preserved t c =
    let there = slice_get_read c.args.arms.now (length c.args.arms.now) c.loop-arm.arm-index
    c.arm-item.result refl c.loop-arm-test.true c.arm-item.is in
    next_arm_done c.args.text.now c.args.arms.now c.loop-arm.arm-index c.arm-item.result
    c.args.self.now c.loop-arm.self c.arm.new.self c.args.holders.now.of.items there
    c.in_ok-arm.ensures c.loop-arm.invariant

pub arms-returns : goal.arms-returns
arms-returns t c end = arms_all_done c.args.text.now c.args.arms.now c.loop-arm.arm-index
    c.args.self.now c.loop-arm.self c.args.holders.now.of.items c.loop-arm-test.false
    c.loop-arm.invariant end

pub block-loop-stmt-init : goal.block-loop-stmt-init
block-loop-stmt-init t c = does_nothing c.args.text.now c.args.end c.as_slice-stmt-items.result.now
    c.args.self.now c.args.holders.of.items

pub block-loop-stmt-preserved : goal.block-loop-stmt-preserved
block-loop-stmt-preserved t c =
    let ss = c.as_slice-stmt-items.result.now in
    let there = slice_get_read c.as_slice-stmt-items.result.now
    (length c.as_slice-stmt-items.result.now) c.loop-stmt.stmt-index c.stmt-item.result refl
    c.loop-stmt-test.true c.stmt-item.is in
    does_next c.args.text.now c.args.end ss c.loop-stmt.stmt-index c.stmt-item.result
    c.args.self.now c.loop-stmt.self c.stmt.new.self c.args.holders.of.items
    c.loop-stmt.holders.of.items c.in_ok-holders.holders.of.items there
    c.in_ok-holders.ensures c.loop-stmt.invariant

pub block-returns : goal.block-returns
block-returns t c =
    let past = subst (λ ss. length ss ≤ c.loop-stmt.stmt-index) c.as_slice-stmt-items.ensures
    c.loop-stmt-test.false in
    let left = subst
    (λ ss. StmtsDone c.args.text.now c.args.end ss c.loop-stmt.stmt-index c.args.self.now
    c.args.holders.of.items c.loop-stmt.self c.loop-stmt.holders.of.items)
    c.as_slice-stmt-items.ensures c.loop-stmt.invariant in
    subst (λ w. WalksBlock c.args.text.now w c.args.end c.args.self.now c.args.holders.of.items
    c.end.new.self) (sym (code_of-parts c.args.block.now))
    (ends_block c.args.text.now c.args.end c.args.block.now.stmts c.loop-stmt.stmt-index
    (end_of c.args.block.now.last) c.args.self.now c.loop-stmt.self c.end.new.self
    c.args.holders.of.items c.loop-stmt.holders.of.items past left c.in_ok-end.ensures)

pub arm-returns : goal.arm-returns
arm-returns t c =
    does_arm c.args.text.now c.args.arm.now.tests (code_of c.args.arm.now.block) c.args.self.now
    c.pass_tests.new.self c.inner_end.new.self c.block.new.self c.args.holders.now.of.items
    c.in_ok-copy.copy.of.items c.in_ok-end.end
    (c.in_ok-pass_tests.ensures.at ∙ ap (λ ts. c.args.self.now.at + length (used_by_tests ts))
    c.as_slice.ensures) c.in_ok-pass_tests.ensures.stays c.in_ok-end.ensures
    c.in_ok-copy.ensures c.in_ok-block.ensures

pub join-returns : goal.join-returns
join-returns t c =
    does_join c.args.text.now c.args.end c.args.targets.now (code_of c.args.block.now)
    c.args.self.now c.inner_end.new.self c.block.new.self c.bind.new.self
    c.args.holders.now.of.items c.in_ok-entering.entering.of.items c.in_ok-next.next.of.items
    c.in_ok-inner_end.inner_end c.in_ok-inner_end.ensures c.in_ok-entering.ensures
    c.in_ok-block.ensures c.in_ok-next.ensures.adds c.in_ok-next.ensures.bound
    c.in_ok-next.ensures.block c.in_ok-next.ensures.calls

pub end-returns-in_ok-last_give-in-Give : goal.end-returns-in_ok-last_give-in-Give
end-returns-in_ok-last_give-in-Give t c =
    subst (λ w. WalksBlock c.args.text.now w c.args.end c.args.self.now c.args.holders.of.items
    c.last_give.new.self)
    (ap give c.as_slice-words.ensures ∙ sym
    (ap end_of c.in-Give.is ∙ end_of-Give c.in-Give.given))
    (c.in_ok-last_give-in-Give.ensures c.args.text.now c.args.end c.args.holders.of.items)

pub end-returns-in_ok-last_call-in-Tail : goal.end-returns-in_ok-last_call-in-Tail
end-returns-in_ok-last_call-in-Tail t c =
    subst (λ w. WalksBlock c.args.text.now w c.args.end c.args.self.now c.args.holders.of.items
    c.last_call.new.self)
    (ap (tail c.in-Tail.proc c.in-Tail.site) c.as_slice.ensures ∙ sym
    (ap end_of c.in-Tail.is ∙ end_of-Tail c.in-Tail.proc c.in-Tail.site c.in-Tail.given))
    (c.in_ok-last_call-in-Tail.ensures c.args.text.now c.args.end c.args.holders.of.items)

pub end-returns-in_ok-block-in-Choose : goal.end-returns-in_ok-block-in-Choose
end-returns-in_ok-block-in-Choose t c =
    let e : c.deref.result.now ≡ c.in-Choose.block.value = search rules in
    subst (λ w. WalksBlock c.args.text.now w c.args.end c.args.self.now c.args.holders.of.items
    c.block.new.self)
    (ap (λ as'. choose (arms_before (map arm_of as') (code_of c.deref.result.now)))
    c.as_slice-in-Choose.ensures ∙ ap
    (λ b. choose (arms_before (map arm_of c.in-Choose.arms) (code_of b))) e
    ∙ sym (ap end_of c.in-Choose.is ∙ end_of-Choose c.in-Choose.arms c.in-Choose.block))
    (ends_choice c.args.text.now c.args.end c.as_slice-in-Choose.result.now
    (code_of c.deref.result.now) c.args.self.now c.arms.new.self c.block.new.self
    c.args.holders.of.items (c.in_ok-arms-in-Choose.ensures c.args.end)
    c.in_ok-block-in-Choose.ensures)

pub end-returns-in-Fail : goal.end-returns-in-Fail
end-returns-in-Fail t c =
    subst (λ w. WalksBlock c.args.text.now w c.args.end c.args.self.now c.args.holders.of.items
    c.args.self.now) (sym (ap end_of c.in-Fail.is ∙ end_of-Fail))
    (ends_fail c.args.text.now c.args.end c.args.self.now c.args.holders.of.items)

pub stmt-returns-in_ok-store-in-Save : goal.stmt-returns-in_ok-store-in-Save
stmt-returns-in_ok-store-in-Save t c =
    subst (λ f. WalksStatement c.args.text.now f c.args.end c.args.self.now c.args.holders.of.items
    c.store.new.self c.args.holders.of.items)
    (sym (ap before_of c.in-Save.is ∙ before_of-Save c.in-Save.a c.in-Save.index c.in-Save.b))
    (c.in_ok-store-in-Save.ensures c.args.text.now c.args.end c.args.holders.of.items)

pub stmt-returns-in_ok-output-in-Put : goal.stmt-returns-in_ok-output-in-Put
stmt-returns-in_ok-output-in-Put t c =
    subst (λ f. WalksStatement c.args.text.now f c.args.end c.args.self.now c.args.holders.of.items
    c.output.new.self c.args.holders.of.items)
    (sym (ap before_of c.in-Put.is ∙ before_of-Put c.in-Put.a))
    (c.in_ok-output-in-Put.ensures c.args.text.now c.args.end c.args.holders.of.items)

pub stmt-returns-in-Join : goal.stmt-returns-in-Join
stmt-returns-in-Join t c =
    let e : c.deref.result.now ≡ c.in-Join.block.value = search rules in
    subst (λ f. IfOk c.join.result
    (λ h. WalksStatement c.args.text.now f c.args.end c.args.self.now c.args.holders.of.items
    c.join.new.self h.of.items))
    (ap (λ xs. join xs (code_of c.deref.result.now)) c.as_slice-in-Join.ensures ∙ ap
    (λ b. join c.in-Join.xs (code_of b)) e ∙ sym
    (ap before_of c.in-Join.is ∙ before_of-Join c.in-Join.xs c.in-Join.block)) c.join.ensures
