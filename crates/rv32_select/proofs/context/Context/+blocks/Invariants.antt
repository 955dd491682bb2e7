use Rattle.std.proofs.Common.{◌+◌, ◌∷◌, drop, map}
use Rattle.low_code.specs.Tree.{program_of, end_of, arm_of, arms_before}
use Rattle.rv32_select.proofs.Emitted.{Within, TowardsArms}
use Rattle.rv32_select.proofs.Weight.{stmt_weight, end_weight, arm_weight, block_weight}
use Rattle.rv32_select.proofs.context.Context.+blocks.Given as goal
use Rattle.seq.specs.Lists.{sum_of}

abbrev pub invariant-block-loop-stmt : goal.invariant-block-loop-stmt
invariant-block-loop-stmt l = Within (program_of l.self.low.now) l.self.places.now l.self.cells
    l.self.stack l.frame.words l.frame.saved l.frame.framed l.stmt-items l.stmt-index l.left
    (end_of l.block.last) l.initial.out.code l.initial.out.next l.out.code l.out.next

abbrev pub invariant-arms-loop-arm : goal.invariant-arms-loop-arm
invariant-arms-loop-arm l = TowardsArms (program_of l.self.low.now) l.self.places.now l.self.cells
    l.self.stack l.frame.words l.frame.saved l.frame.framed l.to.spots.now l.to.way
    (arms_before (map arm_of l.arms)) (arms_before (map arm_of (drop l.arm-index l.arms)))
    l.initial.out.code l.initial.out.next l.out.code l.out.next

abbrev pub decreases-block : goal.decreases-block
decreases-block l = block_weight l.block.now

abbrev pub decreases-stmt : goal.decreases-stmt
decreases-stmt l = stmt_weight l.stmt.now

abbrev pub decreases-join : goal.decreases-join
decreases-join l = block_weight l.block.now + 1

abbrev pub decreases-end : goal.decreases-end
decreases-end l = end_weight l.end.now

abbrev pub decreases-halves : goal.decreases-halves
decreases-halves l = 1 + sum_of (map arm_weight l.arms.now)

abbrev pub decreases-choice : goal.decreases-choice
decreases-choice l = 3 + (sum_of (map arm_weight l.arms.now) + block_weight l.otherwise.now)

abbrev pub decreases-choose : goal.decreases-choose
decreases-choose l = 2 + (sum_of (map arm_weight l.arms.now) + block_weight l.otherwise.now)

abbrev pub decreases-first_last : goal.decreases-first_last
decreases-first_last l = 1 +
    (sum_of (map arm_weight (l.first.now ∷ l.arms.now)) + block_weight l.otherwise.now)

abbrev pub decreases-arms : goal.decreases-arms
decreases-arms l = 1 + (sum_of (map arm_weight l.arms.now) + block_weight l.otherwise.now)

abbrev pub decreases-arm : goal.decreases-arm
decreases-arm l = arm_weight l.arm.now

abbrev pub decreases-decided : goal.decreases-decided
decreases-decided l = end_weight l.end.now

abbrev pub decreases-decided_arms : goal.decreases-decided_arms
decreases-decided_arms l = 2 +
    (sum_of (map arm_weight (l.first.now ∷ l.others.now)) + block_weight l.otherwise.now)

abbrev pub decreases-decided_first : goal.decreases-decided_first
decreases-decided_first l = 1 +
    (sum_of (map arm_weight (l.first.now ∷ l.others.now)) + block_weight l.otherwise.now)

abbrev pub decreases-decided_last : goal.decreases-decided_last
decreases-decided_last l = 1 +
    (sum_of (map arm_weight (l.first.now ∷ l.others.now)) + block_weight l.otherwise.now)
