use Rattle.std.proofs.Common.{◌+◌, map}
use Rattle.rv32_select.proofs.Weight.{stmt_weight, end_weight, arm_weight, block_weight}
use Rattle.rv32_select.proofs.framing.+tallies.Given as goal
use Rattle.seq.specs.Lists.{sum_of}

abbrev pub decreases-of_block : goal.decreases-of_block
decreases-of_block l = block_weight l.block.now

abbrev pub decreases-of_stmt : goal.decreases-of_stmt
decreases-of_stmt l = stmt_weight l.stmt.now

abbrev pub decreases-of_end : goal.decreases-of_end
decreases-of_end l = end_weight l.end.now

abbrev pub decreases-of_arms : goal.decreases-of_arms
decreases-of_arms l = 1 + (sum_of (map arm_weight l.arms.now) + block_weight l.otherwise.now)

abbrev pub invariant-of_block-loop-stmt : goal.invariant-of_block-loop-stmt
invariant-of_block-loop-stmt l = Unit {0}

abbrev pub invariant-of_arms-loop-arm : goal.invariant-of_arms-loop-arm
invariant-of_arms-loop-arm l = Unit {0}
