use Rattle.std.proofs.Common.{arith}
use Rattle.rv32_select.proofs.Weight.{stmt_lighter, last_lighter, join_lighter, choice_lighter, arm_lighter, arm_block_lighter}
use Rattle.rv32_select.proofs.framing.+tallies.Goals as goal

pub of_block-of_stmt-requires : goal.of_block-of_stmt-requires
of_block-of_stmt-requires t c = let w = stmt_lighter c.args.block.now _ _ _
    c.as_slice-stmt-items.ensures c.loop-stmt-test.true c.stmt-item.is in omega (arith, w)

pub of_block-of_end-requires : goal.of_block-of_end-requires
of_block-of_end-requires t c = let w = last_lighter c.args.block.now in omega (arith, w)

pub of_stmt-of_block-requires : goal.of_stmt-of_block-requires
of_stmt-of_block-requires t c = let w = join_lighter c.args.stmt.now _ _ _ c.in-Join.is
    c.deref.ensures in omega (arith, w)

pub of_end-of_arms-requires : goal.of_end-of_arms-requires
of_end-of_arms-requires t c = let w = choice_lighter c.args.end.now _ _ _ _ c.in-Choose.is
    c.as_slice.ensures c.deref.ensures in omega (arith, w)

pub of_arms-of_block-tally-requires : goal.of_arms-of_block-tally-requires
of_arms-of_block-tally-requires t c = omega arith

pub of_arms-of_block-requires : goal.of_arms-of_block-requires
of_arms-of_block-requires t c =
    let w = arm_lighter c.args.arms.now c.loop-arm.arm-index c.arm-item.result c.loop-arm-test.true
    c.arm-item.is in
    let v = arm_block_lighter c.arm-item.result in
    omega (arith, w, v)
