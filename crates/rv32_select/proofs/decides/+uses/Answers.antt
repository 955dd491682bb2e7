use Rattle.std.proofs.Common.{◌∙◌, ap}
use Rattle.low_code.specs.Tree.{end_of}
use Rattle.low_code.specs.Formed.{used_by_tests}
use Rattle.seq.specs.Lists.{is_among}
use Rattle.rv32_select.proofs.VariableUsed.{block_start, block_next, block_all, arms_next, arms_all}
use Rattle.rv32_select.proofs.decides.+uses.Goals as goal

pub block_uses-loop-stmt-init : goal.block_uses-loop-stmt-init
block_uses-loop-stmt-init t c = block_start c.args.variable c.args.block.now
    c.as_slice-stmt-items.result.now c.as_slice-stmt-items.ensures

pub block_uses-loop-stmt-preserved : goal.block_uses-loop-stmt-preserved
block_uses-loop-stmt-preserved t c =
    block_next c.args.variable c.as_slice-stmt-items.result.now c.loop-stmt.stmt-index
    c.stmt-item.result (end_of c.args.block.now.last) c.loop-stmt.found c.either-found.result
    c.stmt_uses.result _ c.loop-stmt-test.true c.stmt-item.is c.stmt_uses.ensures
    c.either-found.ensures c.loop-stmt.invariant

pub block_uses-returns : goal.block_uses-returns
block_uses-returns t c =
    block_all c.args.variable c.as_slice-stmt-items.result.now c.loop-stmt.stmt-index
    (end_of c.args.block.now.last) c.loop-stmt.found c.end_uses.result _ _
    c.loop-stmt-test.false c.end_uses.ensures c.either.ensures c.loop-stmt.invariant

pub arms_use-loop-arm-preserved : goal.arms_use-loop-arm-preserved
arms_use-loop-arm-preserved t c =
    arms_next c.args.variable c.args.arms.now c.loop-arm.arm-index c.arm-item.result
    c.loop-arm.found c.either-found.result c.are_testing-tested.result c.block_uses.result
    c.either.result c.loop-arm-test.true c.arm-item.is
    (c.are_testing-tested.ensures ∙ ap (λ l. is_among c.args.variable (used_by_tests l))
    c.as_slice.ensures) c.block_uses.ensures c.either.ensures c.either-found.ensures
    c.loop-arm.invariant

pub arms_use-returns : goal.arms_use-returns
arms_use-returns t c = arms_all c.args.variable c.args.arms.now c.loop-arm.arm-index
    c.loop-arm.found c.loop-arm-test.false c.loop-arm.invariant
