use Rattle.std.proofs.Common.{◌≡◌, ◌++◌, ◌≤◌, ◌+◌, suc, length, refl, sym, ap, ◌∙◌, subst, arith, rules}
use Rattle.std.proofs.lemmas.Option.{slice_get_read}
use Rattle.low_code.specs.Tree.{before_of, end_of, code_of}
use Rattle.low_code.specs.Formed.{binds, arms_binds}
use Rattle.low_code.proofs.TreeOf.{before_of-Join, code_of-parts}
use Rattle.register_alloc.proofs.Walked.{ArmsLeft, StmtsLeft, arms_next, block_whole, grouped}
use Rattle.register_alloc.proofs.walk.BindingWalk.+walk.Goals as goal

pub arms-loop-arm-preserved : goal.arms-loop-arm-preserved
arms-loop-arm-preserved t c =
    let there = slice_get_read c.args.arms.now (length c.args.arms.now) c.loop-arm.arm-index
    c.arm-item.result refl c.loop-arm-test.true c.arm-item.is in
    let n : suc c.loop-arm.arm-index ≡ c.loop-arm.arm-index + 1 = omega arith in
    subst (λ k. ArmsLeft binds arms_binds c.args.self.now.variables.items
    c.block.new.self.variables.items c.args.arms.now k) n
    (arms_next binds arms_binds (λ ts b rest. refl) _ _ _ c.args.arms.now c.loop-arm.arm-index
    c.arm-item.result there c.in_ok-block.ensures c.loop-arm.invariant)

pub block-returns : goal.block-returns
block-returns t c =
    let past = subst (λ ss. length ss ≤ c.loop-stmt.stmt-index) c.as_slice-stmt-items.ensures
    c.loop-stmt-test.false in
    let left = subst
    (λ ss. StmtsLeft binds c.args.self.now.variables.items c.loop-stmt.self.variables.items ss
    c.loop-stmt.stmt-index) c.as_slice-stmt-items.ensures c.loop-stmt.invariant in
    block_whole binds c.args.self.now.variables.items _ _ c.args.block.now.stmts
    c.loop-stmt.stmt-index (end_of c.args.block.now.last) past left c.in_ok-end.ensures
    ∙ ap (λ b. c.args.self.now.variables.items ++ binds b) (sym (code_of-parts c.args.block.now))

pub stmt-returns-in_ok-bind-in-Join : goal.stmt-returns-in_ok-bind-in-Join
stmt-returns-in_ok-bind-in-Join t c after =
    let old = c.args.self.now.variables.items in
    let block : c.block.new.self.variables.items ≡ old ++ binds (code_of c.in-Join.block.value)
    = search rules in
    let bound : c.bind-in-Join.new.self.variables.items ≡ c.block.new.self.variables.items
    ++ c.in-Join.xs = search rules in
    ap (λ s. old ++ binds (before_of s after)) c.in-Join.is
    ∙ ap (λ f. old ++ binds (f after)) (before_of-Join c.in-Join.xs c.in-Join.block)
    ∙ grouped old (binds (code_of c.in-Join.block.value)) (c.in-Join.xs ++ binds after)
    ∙ ap (λ l. l ++ (c.in-Join.xs ++ binds after)) (sym block)
    ∙ grouped c.block.new.self.variables.items c.in-Join.xs (binds after)
    ∙ ap (λ l. l ++ binds after) (sym bound)
