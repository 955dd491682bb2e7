use Rattle.std.proofs.Common.{◌≡◌, ◌∷◌, ◌++◌, ◌∙◌, map, length, refl, true, sym, ap, subst, arith, ◌/◌, ◌<◌, ◌≤◌, None, drop, take-append-drop}
use Rattle.std.specs.Prelude.{◌-◌}
use Rattle.std.proofs.lemmas.Bool.Decides.{nat_tests}
use Rattle.low_code.specs.Tree.{choose, prim, program_of, code_of, end_of, arm_of, arms_before}
use Rattle.low_code.proofs.TreeOf.{end_of-Give, end_of-Tail, end_of-Fail}
use Rattle.rv32_select.specs.Emit.{branch_items, match_items, compare_items}
use Rattle.rv32_select.specs.IsSelected.{source}
use Rattle.rv32_select.specs.Emitting.{Emitted, TestsAscend, TestsAscendIfSearched}
use Rattle.rv32_select.specs.Decides.{decides, tested}
use Rattle.rv32_select.specs.Writable.{ArmsPlaced, BlocksPlaced}
use Rattle.seq.specs.Lists.{sum_of}
use Rattle.rv32_select.proofs.Emitted.{arm_placed, arm_at_placed, first_last_placed, first_last_made, arm_added, single, both_true, last_chosen, order_chosen, stmt_placed, last_placed, otherwise_placed, called_there, chosen_placed, arms_made, first_placed, choice_is, within_none, within_more, decided_placed, decided_made, decided_first_made, decided_last_made, decided_first_chosen, decided_last_chosen, not_decided, choice_none, block_made}
use Rattle.rv32_select.proofs.EmittedStatements.{joined_placed, on_ok, put_done, join_done, get_done}
use Rattle.rv32_items.specs.declared.Cond.TheVariants.{Geu}
use Rattle.rv32_select.proofs.EmittedHalves.{first_test, first_counts, first_light, first_sought, back_counts, only_arm, in_two, all_placed, word_placed, blocks_apart, searched_one, searched_two, choice_made}
use Rattle.rv32_select.proofs.Weight.{stmt_lighter, last_lighter, join_lighter, choice_lighter, arm_lighter, arm_block_lighter, first_lighter, arm_weight, block_weight}
use Rattle.rv32_select.proofs.context.Context.+blocks.Goals as goal

pub arm-block-requires : goal.arm-block-requires
arm-block-requires t c =
    let w = arm_block_lighter c.args.arm.now in (
      omega (arith, w),
      (arm_placed (program_of c.args.self.now.low.now) c.args.self.now.places.now _
          c.requires.placed).1,
    )

pub block-stmt-requires : goal.block-stmt-requires
block-stmt-requires t c =
    let w = stmt_lighter c.args.block.now _ _ _ c.as_slice-stmt-items.ensures c.loop-stmt-test.true
    c.stmt-item.is in (
      omega (arith, w),
      stmt_placed _ _ _ _ _ _ _ c.args.block.now _ _ _ _ _ _ _
          c.stmt-item.result c.as_slice-stmt-items.ensures c.loop-stmt-test.true c.stmt-item.is
          c.loop-stmt.invariant c.requires.placed,
    )

pub block-end-requires : goal.block-end-requires
block-end-requires t c =
    let w = last_lighter c.args.block.now in (
      omega (arith, w),
      last_placed _ _ _ _ _ _ _ c.args.block.now _ _ _ _ _ _ _
          c.as_slice-stmt-items.ensures c.loop-stmt-test.false c.loop-stmt.invariant
          c.requires.placed,
    )

pub arms-block-requires : goal.arms-block-requires
arms-block-requires t c = (
  omega arith,
  otherwise_placed _ _ _ _ _ _ _ _ _ _ _ _ _ _ _ _ c.loop-arm-test.false
      c.loop-arm.invariant c.requires.placed,
)

pub arms-arm-requires : goal.arms-arm-requires
arms-arm-requires t c =
    let w = arm_lighter c.args.arms.now c.loop-arm.arm-index c.arm-item.result c.loop-arm-test.true
    c.arm-item.is in (
      omega (arith, w),
      arm_at_placed _ _ _ _ _ _ _ _ _ _ _ _ _ _ _ _ c.arm-item.result
          c.loop-arm-test.true c.arm-item.is c.loop-arm.invariant c.requires.placed,
    )

pub first_last-source-requires : goal.first_last-source-requires
first_last-source-requires t c =
    (first_last_placed (program_of c.args.self.now.low.now) c.args.self.now.places.now
    c.args.first.now c.args.test c.args.arms.now (code_of c.args.otherwise.now) c.requires.test
    c.requires.placed).0

pub first_last-arms-requires : goal.first_last-arms-requires
first_last-arms-requires t c =
    let w = first_lighter c.args.first.now c.args.arms.now (block_weight c.args.otherwise.now) in (
      omega (arith, w.0),
      (first_last_placed (program_of c.args.self.now.low.now) c.args.self.now.places.now
          c.args.first.now c.args.test c.args.arms.now (code_of c.args.otherwise.now)
          c.requires.test
          c.requires.placed).1.0,
    )

pub first_last-block-requires : goal.first_last-block-requires
first_last-block-requires t c =
    let w = first_lighter c.args.first.now c.args.arms.now (block_weight c.args.otherwise.now) in (
      omega (arith, w.1),
      (first_last_placed (program_of c.args.self.now.low.now) c.args.self.now.places.now
          c.args.first.now c.args.test c.args.arms.now (code_of c.args.otherwise.now)
          c.requires.test
          c.requires.placed).1.1,
    )

pub join-block-requires : goal.join-block-requires
join-block-requires t c = (omega arith, c.requires.placed)

pub end-tail-requires-clause-proc : goal.end-tail-requires-clause-proc
end-tail-requires-clause-proc t c = called_there c.args.self.now.low.now c.args.self.now.places.now
    c.args.end.now _ _ _ c.in-Tail.is c.requires.placed

pub end-choice-requires : goal.end-choice-requires
end-choice-requires t c =
    let w = choice_lighter c.args.end.now _ _ _ _ c.in-Choose.is c.as_slice-in-Choose.ensures
    c.deref.ensures in (
      omega (arith, w),
      chosen_placed (program_of c.args.self.now.low.now)
          c.args.self.now.places.now c.args.end.now _ _ _ _ c.in-Choose.is
          c.as_slice-in-Choose.ensures c.deref.ensures c.requires.placed,
    )

pub stmt-join-requires : goal.stmt-join-requires
stmt-join-requires t c =
    let w = join_lighter c.args.stmt.now _ _ _ c.in-Join.is c.deref.ensures in (
      omega (arith, w),
      joined_placed (program_of c.args.self.now.low.now)
          c.args.self.now.places.now c.args.stmt.now _ _ _ _ c.in-Join.is
          c.as_slice-in-Join.ensures
          c.deref.ensures c.requires.placed,
    )

pub block-returns : goal.block-returns
block-returns t c = block_made _ _ _ _ _ _ _ c.args.block.now _ _ _ _ _ _ _ _ _ _ _
    c.as_slice-stmt-items.ensures c.loop-stmt-test.false c.loop-stmt.invariant c.in_ok-end.ensures

pub stmt-returns-in-Join : goal.stmt-returns-in-Join
stmt-returns-in-Join t c =
    join_done (program_of c.args.self.now.low.now) c.args.self.now.places.now c.args.self.now.cells
    c.args.self.now.stack c.args.frame.words c.args.frame.saved c.args.frame.framed
    c.args.stmt.now _ _ _ _ _ _ _ _ c.join.result c.in-Join.is c.as_slice-in-Join.ensures
    c.deref.ensures c.join.ensures

pub arms-loop-arm-preserved : goal.arms-loop-arm-preserved
arms-loop-arm-preserved t c = arm_added _ _ _ _ _ _ _ _ _ _ c.args.arms.now c.loop-arm.arm-index
    c.arm-item.result _ _ _ _ _ _ c.loop-arm-test.true c.arm-item.is c.loop-arm.invariant
    c.in_ok-arm.ensures

pub first_last-returns : goal.first_last-returns
first_last-returns t c =
    first_last_made (program_of c.args.self.now.low.now) c.args.self.now.places.now
    c.args.self.now.cells c.args.self.now.stack c.args.frame.words c.args.frame.saved
    c.args.frame.framed c.args.to.now.spots.now c.args.to.now.way c.continued_by_jump.result
    c.args.first.now
    c.args.test c.args.arms.now (code_of c.args.otherwise.now) _ _ _ _ _ _ _ _ _ _
    c.requires.test c.in_ok-label.ensures.0 c.in_ok-label.ensures.1 c.continued_by_jump.ensures
    (c.in_ok-match_to.ensures ∙
    (λ i. c.in_ok-label.ensures.2 i ++ match_items c.in_ok-label.label (c.source.ensures.0 i)
    c.args.test.right)) c.in_ok-arms.ensures c.in_ok-put.ensures c.in_ok-block.ensures

pub choose-first_last-requires : goal.choose-first_last-requires
choose-first_last-requires t c =
    let all : c.args.arms.now ≡ c.in-Some.first.now ∷ c.in-Some.others.now
    = c.in-Some.ensures.cases.0 in
    let one = single c.in-Some.first.now.tests c.as_slice.result.now _ c.as_slice.ensures
    (both_true _ _ (sym c.first_arm_goes_last.ensures ∙ c.if-first_arm_goes_last.true)) in
    let w = ap (λ ts. sum_of (map arm_weight ts)) all in (
      omega (arith, w),
      (
        one,
        subst
            (λ ts. ArmsPlaced (program_of c.args.self.now.low.now) c.args.self.now.places.now
            (arms_before (map arm_of ts) (code_of c.args.otherwise.now))) all
            c.requires.placed,
      ),
    )

pub choose-returns-then-first_arm_goes_last : goal.choose-returns-then-first_arm_goes_last
choose-returns-then-first_arm_goes_last t c =
    last_chosen (program_of c.args.self.now.low.now) c.args.self.now.places.now
    c.args.self.now.cells c.args.self.now.stack c.args.frame.words c.args.frame.saved
    c.args.frame.framed c.args.to.now.spots.now c.args.to.now.way c.args.arms.now
    c.in-Some.others.now
    c.in-Some.first.now (code_of c.args.otherwise.now) c.first_arm_goes_last.result _ _ _ _
    c.in-Some.ensures.cases.0 c.first_arm_goes_last.ensures c.if-first_arm_goes_last.true
    c.in_ok-first_last-in-Some.ensures

pub choose-returns-in_ok-arms-in-Some : goal.choose-returns-in_ok-arms-in-Some
choose-returns-in_ok-arms-in-Some t c =
    order_chosen (program_of c.args.self.now.low.now) c.args.self.now.places.now
    c.args.self.now.cells c.args.self.now.stack c.args.frame.words c.args.frame.saved
    c.args.frame.framed c.args.to.now.spots.now c.args.to.now.way c.args.arms.now
    c.in-Some.others.now
    c.in-Some.first.now (code_of c.args.otherwise.now) c.first_arm_goes_last.result _ _ _ _
    c.in-Some.ensures.cases.0 c.first_arm_goes_last.ensures c.if-first_arm_goes_last.false
    c.in_ok-arms-in-Some.ensures

pub block-loop-stmt-init : goal.block-loop-stmt-init
block-loop-stmt-init t c = within_none _ _ _ _ _ _ _ c.as_slice-stmt-items.result.now _ _ _ _
    (c.len-left.ensures ∙ ap length (sym c.as_slice-stmt-items.ensures))

pub block-loop-stmt-preserved : goal.block-loop-stmt-preserved
block-loop-stmt-preserved t c =
    let count = c.loop-stmt.invariant.count in
    within_more _ _ _ _ _ _ _ c.as_slice-stmt-items.result.now c.loop-stmt.stmt-index
    c.loop-stmt.left (c.loop-stmt.left - 1) c.stmt-item.result (end_of c.args.block.now.last) _
    _ _ _ _ _ _ c.loop-stmt-test.true c.stmt-item.is
    (let lt = c.loop-stmt-test.true in omega (arith, count, lt)) refl c.in_default.ensures
    c.loop-stmt.invariant c.in_ok-stmt.ensures

pub block-decided-requires : goal.block-decided-requires
block-decided-requires t c =
    let count = c.loop-stmt.invariant.count in
    let lt = c.loop-stmt-test.true in
    let so = c.in-Some.ensures in
    let last = so.0 in
    let none : c.loop-stmt.left - 1 ≡ 0 = grind (arith, nat_tests) in
    let p = decided_placed _ _ _ _ _ _ _ c.args.block.now _ _ _ (c.loop-stmt.left - 1)
    c.stmt-item.result c.in-Some.comparison _ _ _ _ c.as_slice-stmt-items.ensures
    c.loop-stmt-test.true c.stmt-item.is (omega (arith, count, lt)) none so.1.0
    c.loop-stmt.invariant c.requires.placed in
    let w = last_lighter c.args.block.now in (
      omega (arith, w),
      (p.0, (p.1, so.1.1)),
    )

pub block-returns-in-Some : goal.block-returns-in-Some
block-returns-in-Some t c =
    let count = c.loop-stmt.invariant.count in
    let lt = c.loop-stmt-test.true in
    let so = c.in-Some.ensures in
    let last = so.0 in
    let none : c.loop-stmt.left - 1 ≡ 0 = grind (arith, nat_tests) in
    decided_made _ _ _ _ _ _ _ c.args.block.now _ _ _ (c.loop-stmt.left - 1) c.stmt-item.result
    c.in-Some.comparison _ _ _ _ _ _ _ _ c.as_slice-stmt-items.ensures c.loop-stmt-test.true
    c.stmt-item.is (omega (arith, count, lt)) none so.1.0 c.loop-stmt.invariant
    c.in_ok-decided.ensures

pub decided-decided_arms-requires : goal.decided-decided_arms-requires
decided-decided_arms-requires t c =
    let all = c.in-Some.ensures.cases.0 in
    let w = choice_lighter c.args.end.now _ _ _ _ c.in-Choose.is c.as_slice.ensures c.deref.ensures
    in
    let more = ap (λ ts. sum_of (map arm_weight ts)) all in
    let arms = chosen_placed (program_of c.args.self.now.low.now) c.args.self.now.places.now
    c.args.end.now _ _ _ _ c.in-Choose.is c.as_slice.ensures c.deref.ensures c.requires.placed
    in (
      omega (arith, w, more),
      (
        c.requires.operands,
        (
          subst (λ ts. ArmsPlaced (program_of c.args.self.now.low.now)
              c.args.self.now.places.now
              (arms_before (map arm_of ts) (code_of c.deref.result.now))) all arms,
          subst (λ e. decides c.args.comparison.operation c.args.comparison.variable e ≡ true)
              (choice_is c.args.end.now _ _ _ _ _ _ c.in-Choose.is c.as_slice.ensures
              c.deref.ensures all)
              c.requires.decides,
        ),
      ),
    )

pub decided_first-block-requires : goal.decided_first-block-requires
decided_first-block-requires t c =
    let w = first_lighter c.args.first.now c.args.others.now (block_weight c.args.otherwise.now)
    in (
      omega (arith, w.1),
      (first_placed (program_of c.args.self.now.low.now) c.args.self.now.places.now
          c.args.first.now c.args.others.now (code_of c.args.otherwise.now)
          c.requires.placed).1,
    )

pub decided_first-arms-requires : goal.decided_first-arms-requires
decided_first-arms-requires t c =
    let w = first_lighter c.args.first.now c.args.others.now (block_weight c.args.otherwise.now)
    in (
      omega (arith, w.0),
      (first_placed (program_of c.args.self.now.low.now) c.args.self.now.places.now
          c.args.first.now c.args.others.now (code_of c.args.otherwise.now)
          c.requires.placed).0,
    )

pub decided_last-block-requires : goal.decided_last-block-requires
decided_last-block-requires t c =
    let w = first_lighter c.args.first.now c.args.others.now (block_weight c.args.otherwise.now)
    in (
      omega (arith, w.1),
      (first_placed (program_of c.args.self.now.low.now) c.args.self.now.places.now
          c.args.first.now c.args.others.now (code_of c.args.otherwise.now)
          c.requires.placed).1,
    )

pub decided_last-arms-requires : goal.decided_last-arms-requires
decided_last-arms-requires t c =
    let w = first_lighter c.args.first.now c.args.others.now (block_weight c.args.otherwise.now)
    in (
      omega (arith, w.0),
      (first_placed (program_of c.args.self.now.low.now) c.args.self.now.places.now
          c.args.first.now c.args.others.now (code_of c.args.otherwise.now)
          c.requires.placed).0,
    )

pub decided_first-returns : goal.decided_first-returns
decided_first-returns t c =
    decided_first_made (program_of c.args.self.now.low.now) c.args.self.now.places.now
    c.args.self.now.cells c.args.self.now.stack c.args.frame.words c.args.frame.saved
    c.args.frame.framed c.args.to.now.spots.now c.args.to.now.way c.continued_by_jump.result
    c.args.first.now
    c.args.others.now (code_of c.args.otherwise.now) c.args.comparison.operation
    (source (program_of c.args.self.now.low.now) c.args.self.now.places.now
    c.args.comparison.left)
    (source (program_of c.args.self.now.low.now) c.args.self.now.places.now
    c.args.comparison.right) c.tested-number.result _ _ _ _ _ _ _ _ _ _ c.in_ok-label.ensures.0
    c.in_ok-label.ensures.1 c.continued_by_jump.ensures
    (c.tested-number.ensures ∙ ap tested c.as_slice.ensures)
    (c.in_ok-branch.ensures ∙
    (λ i. c.in_ok-label.ensures.2 i ++ branch_items (c.other_condition.ensures i)
    c.in_ok-label.label (c.source-left.ensures.0 i) (c.source-right.ensures.0 i)))
    c.in_ok-block.ensures c.in_ok-put.ensures c.in_ok-arms.ensures

pub decided_last-returns : goal.decided_last-returns
decided_last-returns t c =
    decided_last_made (program_of c.args.self.now.low.now) c.args.self.now.places.now
    c.args.self.now.cells c.args.self.now.stack c.args.frame.words c.args.frame.saved
    c.args.frame.framed c.args.to.now.spots.now c.args.to.now.way c.continued_by_jump.result
    c.args.first.now
    c.args.others.now (code_of c.args.otherwise.now) c.args.comparison.operation
    (source (program_of c.args.self.now.low.now) c.args.self.now.places.now
    c.args.comparison.left)
    (source (program_of c.args.self.now.low.now) c.args.self.now.places.now
    c.args.comparison.right) c.tested-number.result _ _ _ _ _ _ _ _ _ _ c.in_ok-label.ensures.0
    c.in_ok-label.ensures.1 c.continued_by_jump.ensures
    (c.tested-number.ensures ∙ ap tested c.as_slice.ensures)
    (c.in_ok-branch.ensures ∙
    (λ i. c.in_ok-label.ensures.2 i ++ branch_items (c.condition.ensures i) c.in_ok-label.label
    (c.source-left.ensures.0 i) (c.source-right.ensures.0 i))) c.in_ok-arms.ensures
    c.in_ok-put.ensures c.in_ok-block.ensures

pub decided_arms-returns-then-first_arm_goes_last :
    goal.decided_arms-returns-then-first_arm_goes_last
decided_arms-returns-then-first_arm_goes_last t c =
    decided_last_chosen (program_of c.args.self.now.low.now) c.args.self.now.places.now
    c.args.self.now.cells c.args.self.now.stack c.args.frame.words c.args.frame.saved
    c.args.frame.framed c.args.to.now.spots.now c.args.to.now.way c.args.first.now c.args.others.now
    (code_of c.args.otherwise.now) c.args.comparison.operation c.args.comparison.variable
    c.args.comparison.left c.args.comparison.right _ _ c.first_arm_goes_last.result _ _ _ _ refl
    refl c.first_arm_goes_last.ensures c.if-first_arm_goes_last.true c.requires.decides
    c.in_ok-decided_last.ensures

pub decided_arms-returns : goal.decided_arms-returns
decided_arms-returns t c =
    decided_first_chosen (program_of c.args.self.now.low.now) c.args.self.now.places.now
    c.args.self.now.cells c.args.self.now.stack c.args.frame.words c.args.frame.saved
    c.args.frame.framed c.args.to.now.spots.now c.args.to.now.way c.args.first.now c.args.others.now
    (code_of c.args.otherwise.now) c.args.comparison.operation c.args.comparison.variable
    c.args.comparison.left c.args.comparison.right _ _ c.first_arm_goes_last.result _ _ _ _ refl
    refl c.first_arm_goes_last.ensures c.if-first_arm_goes_last.false c.requires.decides
    c.in_ok-decided_first.ensures

pub decided-returns-in-Give : goal.decided-returns-in-Give
decided-returns-in-Give t c = absurd
    (not_decided (program_of c.args.self.now.low.now) c.args.self.now.places.now
    c.args.self.now.cells c.args.self.now.stack c.args.frame.words c.args.frame.saved
    c.args.frame.framed c.args.comparison.operation c.args.comparison.variable
    (end_of c.args.end.now) _ refl (ap end_of c.in-Give.is ∙ end_of-Give _) c.requires.decides)

pub decided-returns-in-Tail : goal.decided-returns-in-Tail
decided-returns-in-Tail t c = absurd
    (not_decided (program_of c.args.self.now.low.now) c.args.self.now.places.now
    c.args.self.now.cells c.args.self.now.stack c.args.frame.words c.args.frame.saved
    c.args.frame.framed c.args.comparison.operation c.args.comparison.variable
    (end_of c.args.end.now) _ refl (ap end_of c.in-Tail.is ∙ end_of-Tail _ _ _) c.requires.decides)

pub decided-returns-in-Fail : goal.decided-returns-in-Fail
decided-returns-in-Fail t c = absurd
    (not_decided (program_of c.args.self.now.low.now) c.args.self.now.places.now
    c.args.self.now.cells c.args.self.now.stack c.args.frame.words c.args.frame.saved
    c.args.frame.framed c.args.comparison.operation c.args.comparison.variable
    (end_of c.args.end.now) _ refl (ap end_of c.in-Fail.is ∙ end_of-Fail) c.requires.decides)

pub decided-returns-in-None : goal.decided-returns-in-None
decided-returns-in-None t c = absurd
    (not_decided (program_of c.args.self.now.low.now) c.args.self.now.places.now
    c.args.self.now.cells c.args.self.now.stack c.args.frame.words c.args.frame.saved
    c.args.frame.framed c.args.comparison.operation c.args.comparison.variable
    (end_of c.args.end.now) _ refl
    (choice_none c.args.end.now _ _ _ c.in-Choose.is c.as_slice.ensures c.in-None.ensures.cases)
    c.requires.decides)

pub decided-returns-in_ok-decided_arms-in-Some : goal.decided-returns-in_ok-decided_arms-in-Some
decided-returns-in_ok-decided_arms-in-Some t c =
    let same = choice_is c.args.end.now _ _ _ _ _ _ c.in-Choose.is c.as_slice.ensures
    c.deref.ensures c.in-Some.ensures.cases.0 in
    subst (λ e. Emitted (program_of c.args.self.now.low.now) c.args.self.now.places.now
    c.args.self.now.cells c.args.self.now.stack c.args.frame.words c.args.frame.saved
    c.args.frame.framed c.args.to.now.spots.now c.args.to.now.way
    (prim c.args.comparison.operation c.args.comparison.variable c.args.comparison.left
    c.args.comparison.right e) c.args.out.now.code c.args.out.now.next
    c.decided_arms.new.out.code c.decided_arms.new.out.next) (sym same)
    c.in_ok-decided_arms-in-Some.ensures

pub arms-returns : goal.arms-returns
arms-returns t c = on_ok c.block.result _ _
    (λ e. arms_made _ _ _ _ _ _ _ c.args.to.now.spots.now c.args.to.now.way _
    (code_of c.args.otherwise.now)
    c.args.arms.now c.loop-arm.arm-index _ _ _ _ _ _ c.loop-arm-test.false c.loop-arm.invariant e)
    c.block.ensures

pub halves-number_of-requires : goal.halves-number_of-requires
halves-number_of-requires t c = first_counts c.args.search.word c.args.search.low c.args.search.high
    c.args.arms.now _ c.requires.some c.index-arms-0.is c.requires.rises

pub halves-block-requires : goal.halves-block-requires
halves-block-requires t c =
    let w = first_light c.args.arms.now _ c.requires.some c.index-arms-0.is in (
      omega (arith, w),
      first_sought (program_of c.args.self.now.low.now)
          c.args.self.now.places.now c.args.arms.now _ c.requires.some c.index-arms-0.is
          c.requires.placed,
    )

pub halves-returns-then-arms-eq1 : goal.halves-returns-then-arms-eq1
halves-returns-then-arms-eq1 t c =
    let e : length c.args.arms.now ≡ 1 = c.if-arms-eq1.true in
    searched_one (program_of c.args.self.now.low.now) c.args.self.now.places.now
    c.args.self.now.cells c.args.self.now.stack c.args.frame.words c.args.frame.saved
    c.args.frame.framed c.args.search.miss c.args.search.word c.args.to.now.spots.now
    c.args.to.now.way
    c.args.search.low c.args.search.high c.args.arms.now _ c.number_of.result _ _ _ _ _
    (only_arm c.args.arms.now _ e c.index-arms-0.is)
    (first_test c.args.search.word c.args.search.low c.args.search.high c.args.arms.now _
    c.requires.some c.index-arms-0.is c.requires.rises) c.number_of.ensures
    c.in_ok-last_test.ensures c.in_ok-block.ensures

pub halves-number_of-bound-requires : goal.halves-number_of-bound-requires
halves-number_of-bound-requires t c =
    let more = c.if-arms-eq1.false in
    let some = c.requires.some in
    let lt : length c.args.arms.now / 2 < length c.args.arms.now = omega (arith, more, some) in
    back_counts c.args.search.word c.args.search.low c.args.search.high c.args.arms.now
    c.split_at.result.1.now (length c.args.arms.now / 2) _ c.split_at.ensures.back
    c.index-back-0.is lt c.requires.rises

pub halves-halves-requires : goal.halves-halves-requires
halves-halves-requires t c =
    let more = c.if-arms-eq1.false in
    let some = c.requires.some in
    let lt : length c.args.arms.now / 2 < length c.args.arms.now = omega (arith, more, some) in
    let parts = in_two c.args.search.word c.args.search.low c.args.search.high c.args.arms.now
    c.split_at.result.0.now c.split_at.result.1.now (length c.args.arms.now / 2)
    c.number_of-bound.result _ c.split_at.ensures.front c.split_at.ensures.back
    c.index-back-0.is (omega (arith, more, some)) lt c.number_of-bound.ensures c.requires.rises in
    let placed = blocks_apart (program_of c.args.self.now.low.now) c.args.self.now.places.now
    c.split_at.result.0.now c.split_at.result.1.now
    (subst (BlocksPlaced (program_of c.args.self.now.low.now) c.args.self.now.places.now)
    parts.whole c.requires.placed) in
    let w = parts.lighter.0 in (
      omega (arith, w),
      (parts.some.0, (c.requires.word, (parts.below, placed.0))),
    )

pub halves-halves-requires-2 : goal.halves-halves-requires-2
halves-halves-requires-2 t c =
    let more = c.if-arms-eq1.false in
    let some = c.requires.some in
    let lt : length c.args.arms.now / 2 < length c.args.arms.now = omega (arith, more, some) in
    let parts = in_two c.args.search.word c.args.search.low c.args.search.high c.args.arms.now
    c.split_at.result.0.now c.split_at.result.1.now (length c.args.arms.now / 2)
    c.number_of-bound.result _ c.split_at.ensures.front c.split_at.ensures.back
    c.index-back-0.is (omega (arith, more, some)) lt c.number_of-bound.ensures c.requires.rises in
    let placed = blocks_apart (program_of c.args.self.now.low.now) c.args.self.now.places.now
    c.split_at.result.0.now c.split_at.result.1.now
    (subst (BlocksPlaced (program_of c.args.self.now.low.now) c.args.self.now.places.now)
    parts.whole c.requires.placed) in
    let w = parts.lighter.1 in (
      omega (arith, w),
      (parts.some.1, (c.requires.word, (parts.above, placed.1))),
    )

pub halves-returns : goal.halves-returns
halves-returns t c =
    let whole : c.args.arms.now ≡ c.split_at.result.0.now ++ c.split_at.result.1.now
    = sym (take-append-drop (length c.args.arms.now / 2) c.args.arms.now) ∙ ap
    (λ zs. zs ++ drop (length c.args.arms.now / 2) c.args.arms.now)
    (sym c.split_at.ensures.front) ∙ ap (λ zs. c.split_at.result.0.now ++ zs)
    (sym c.split_at.ensures.back) in
    searched_two (program_of c.args.self.now.low.now) c.args.self.now.places.now
    c.args.self.now.cells c.args.self.now.stack c.args.frame.words c.args.frame.saved
    c.args.frame.framed c.args.search.miss c.args.search.word c.args.to.now.spots.now
    c.args.to.now.way
    c.args.search.low c.number_of-bound.result c.args.search.high c.args.arms.now
    c.split_at.result.0.now c.split_at.result.1.now _ _ _ _ _ _ _ _ _ _ whole
    c.in_ok-label.ensures.0 c.in_ok-label.ensures.1
    (c.in_ok-compare.ensures ∙
    (λ i. c.in_ok-label.ensures.2 i ++ compare_items Geu c.in_ok-label.label
    (c.source.ensures.0 i) c.number_of-bound.result)) c.in_ok-halves.ensures c.in_ok-put.ensures
    c.in_ok-halves-2.ensures

pub choice-halves-requires : goal.choice-halves-requires
choice-halves-requires t c =
    let p = all_placed (program_of c.args.self.now.low.now) c.args.self.now.places.now
    c.args.arms.now (code_of c.args.otherwise.now) c.requires.placed in
    let found : (1 ≤ length c.args.arms.now) × TestsAscend c.in-Some.word 0 None c.args.arms.now
    = subst (λ r. TestsAscendIfSearched r c.args.arms.now) c.in-Some.is c.searched_word.ensures
    in (
      omega arith,
      (
        found.0,
        (
          word_placed (program_of c.args.self.now.low.now) c.args.self.now.places.now
              c.in-Some.word
              0 None c.args.arms.now (code_of c.args.otherwise.now) found.0 found.1
              c.requires.placed,
          (found.1, p.0),
        ),
      ),
    )

pub choice-block-requires : goal.choice-block-requires
choice-block-requires t c =
    let p = all_placed (program_of c.args.self.now.low.now) c.args.self.now.places.now
    c.args.arms.now (code_of c.args.otherwise.now) c.requires.placed in
    (omega arith, p.1)

pub choice-returns : goal.choice-returns
choice-returns t c =
    subst (λ old. Emitted (program_of c.args.self.now.low.now) c.args.self.now.places.now
    c.args.self.now.cells c.args.self.now.stack c.args.frame.words c.args.frame.saved
    c.args.frame.framed c.args.to.now.spots.now c.args.to.now.way
    (choose (arms_before (map arm_of c.args.arms.now) (code_of c.args.otherwise.now))) old
    c.args.out.now.next c.block.new.out.code c.block.new.out.next) c.in_ok-miss.ensures.2
    (choice_made (program_of c.args.self.now.low.now) c.args.self.now.places.now
    c.args.self.now.cells c.args.self.now.stack c.args.frame.words c.args.frame.saved
    c.args.frame.framed c.in-Some.word c.args.to.now.spots.now c.args.to.now.way
    c.continued_by_jump.result
    c.args.arms.now (code_of c.args.otherwise.now) _ _ _ _ _ _ _ _ _
    c.in_ok-miss.ensures.0 c.in_ok-miss.ensures.1 c.continued_by_jump.ensures c.in_ok-halves.ensures
    c.in_ok-put.ensures c.in_ok-block.ensures)

pub stmt-returns-in_ok-put_byte-in-Put : goal.stmt-returns-in_ok-put_byte-in-Put
stmt-returns-in_ok-put_byte-in-Put t c =
    on_ok c.link_back.result _ _
    (λ three. put_done _ _ _ _ _ _ _ c.args.stmt.now _ _ _ _ _ _ _ _ c.in-Put.is
    c.source-word-in-Put.ensures c.heap_end.ensures c.in_ok-link_aside-in-Put.ensures
    c.in_ok-put_byte-in-Put.ensures three) c.link_back.ensures

pub stmt-returns-in_ok-get_byte-in-Get : goal.stmt-returns-in_ok-get_byte-in-Get
stmt-returns-in_ok-get_byte-in-Get t c =
    on_ok c.link_back-in-Get.result _ _
    (λ three. get_done _ _ _ _ _ _ _ c.args.stmt.now _ _ _ _ _ _ _ _ c.in-Get.is
    c.place-in-Get.ensures c.heap_end-in-Get.ensures c.in_ok-link_aside-in-Get.ensures
    c.in_ok-get_byte-in-Get.ensures three) c.link_back-in-Get.ensures
