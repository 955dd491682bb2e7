use Rattle.std.proofs.Common.{◌≡◌, ◌++◌, ◌∷◌, ◌≤◌, ◌+◌, suc, length, refl, sym, ap, ◌∙◌, subst, arith, rules}
use Rattle.std.proofs.lemmas.Option.{slice_get_read}
use Rattle.low_code.specs.Tree.{before_of, end_of, code_of}
use Rattle.low_code.specs.Formed.{used_by_tests, uses, arms_uses}
use Rattle.low_code.proofs.TreeOf.{before_of-Join, code_of-parts}
use Rattle.register_alloc.specs.Inner.{sizes_of, arms_sizes}
use Rattle.register_alloc.proofs.Walked.{ArmsLeft, StmtsLeft, each_arm_next, block_whole, grouped}
use Rattle.register_alloc.proofs.scan.Scan.+scan.Goals as goal

pub arms-loop-arm-preserved : goal.arms-loop-arm-preserved
arms-loop-arm-preserved t c =
    let there = slice_get_read c.args.arms.now (length c.args.arms.now) c.loop-arm.arm-index
    c.arm-item.result refl c.loop-arm-test.true c.arm-item.is in
    let n : suc c.loop-arm.arm-index ≡ c.loop-arm.arm-index + 1 = omega arith in
    let tested : c.tests.new.self.used.items ≡ c.loop-arm.self.used.items
    ++ used_by_tests c.arm-item.result.tests = search rules in
    let used : c.inner.new.self.used.items ≡ c.tests.new.self.used.items
    ++ uses (code_of c.arm-item.result.block) = search rules in
    let same : c.tests.new.self.sizes.items ≡ c.loop-arm.self.sizes.items = search rules in
    let sized : c.inner.new.self.sizes.items ≡ c.tests.new.self.sizes.items
    ++ (length (uses (code_of c.arm-item.result.block)) ∷ sizes_of
    (code_of c.arm-item.result.block)) = search rules in
    record {
      used = subst
          (λ k. ArmsLeft uses arms_uses c.args.self.now.used.items c.inner.new.self.used.items
          c.args.arms.now k) n
          (each_arm_next uses arms_uses (λ ts b. used_by_tests ts ++ uses b)
          (λ ts b rest. grouped (used_by_tests ts) (uses b) (arms_uses rest)) _ _ _
          c.args.arms.now c.loop-arm.arm-index c.arm-item.result there
          (used ∙ ap (λ l. l ++ uses (code_of c.arm-item.result.block)) tested ∙ sym
          (grouped c.loop-arm.self.used.items (used_by_tests c.arm-item.result.tests)
          (uses (code_of c.arm-item.result.block))))
          c.loop-arm.invariant.used);
      sizes = subst
          (λ k. ArmsLeft sizes_of arms_sizes c.args.self.now.sizes.items
          c.inner.new.self.sizes.items c.args.arms.now k) n
          (each_arm_next sizes_of arms_sizes (λ ts b. length (uses b) ∷ sizes_of b)
          (λ ts b rest. refl) _ _ _ c.args.arms.now c.loop-arm.arm-index c.arm-item.result there
          (sized ∙ ap
          (λ l. l ++
          (length (uses (code_of c.arm-item.result.block)) ∷ sizes_of
          (code_of c.arm-item.result.block))) same)
          c.loop-arm.invariant.sizes);
    }

pub block-returns-clause-used : goal.block-returns-clause-used
block-returns-clause-used t c =
    let past = subst (λ ss. length ss ≤ c.loop-stmt.stmt-index) c.as_slice-stmt-items.ensures
    c.loop-stmt-test.false in
    let left = subst
    (λ ss. StmtsLeft uses c.args.self.now.used.items c.loop-stmt.self.used.items ss
    c.loop-stmt.stmt-index) c.as_slice-stmt-items.ensures c.loop-stmt.invariant.used in
    block_whole uses c.args.self.now.used.items _ _ c.args.block.now.stmts c.loop-stmt.stmt-index
    (end_of c.args.block.now.last) past left c.in_ok-end.ensures.used
    ∙ ap (λ b. c.args.self.now.used.items ++ uses b) (sym (code_of-parts c.args.block.now))

pub block-returns-clause-sizes : goal.block-returns-clause-sizes
block-returns-clause-sizes t c =
    let past = subst (λ ss. length ss ≤ c.loop-stmt.stmt-index) c.as_slice-stmt-items.ensures
    c.loop-stmt-test.false in
    let left = subst
    (λ ss. StmtsLeft sizes_of c.args.self.now.sizes.items c.loop-stmt.self.sizes.items ss
    c.loop-stmt.stmt-index) c.as_slice-stmt-items.ensures c.loop-stmt.invariant.sizes in
    block_whole sizes_of c.args.self.now.sizes.items _ _ c.args.block.now.stmts
    c.loop-stmt.stmt-index (end_of c.args.block.now.last) past left c.in_ok-end.ensures.sizes
    ∙ ap (λ b. c.args.self.now.sizes.items ++ sizes_of b) (sym (code_of-parts c.args.block.now))

pub stmt-returns-in_ok-inner-in-Join-clause-used : goal.stmt-returns-in_ok-inner-in-Join-clause-used
stmt-returns-in_ok-inner-in-Join-clause-used t c after =
    let old = c.args.self.now.used.items in
    let block : c.inner.new.self.used.items ≡ old ++ uses (code_of c.in-Join.block.value)
    = search rules in
    ap (λ s. old ++ uses (before_of s after)) c.in-Join.is
    ∙ ap (λ f. old ++ uses (f after)) (before_of-Join c.in-Join._targets c.in-Join.block)
    ∙ grouped old (uses (code_of c.in-Join.block.value)) (uses after)
    ∙ ap (λ l. l ++ uses after) (sym block)

pub stmt-returns-in_ok-inner-in-Join-clause-sizes :
    goal.stmt-returns-in_ok-inner-in-Join-clause-sizes
stmt-returns-in_ok-inner-in-Join-clause-sizes t c after =
    let old = c.args.self.now.sizes.items in
    let b = code_of c.in-Join.block.value in
    let block : c.inner.new.self.sizes.items ≡ old ++
    (length (uses (code_of c.in-Join.block.value)) ∷ sizes_of (code_of c.in-Join.block.value))
    = search rules in
    ap (λ s. old ++ sizes_of (before_of s after)) c.in-Join.is
    ∙ ap (λ f. old ++ sizes_of (f after)) (before_of-Join c.in-Join._targets c.in-Join.block)
    ∙ grouped old (length (uses b) ∷ sizes_of b) (sizes_of after)
    ∙ ap (λ l. l ++ sizes_of after) (sym block)
