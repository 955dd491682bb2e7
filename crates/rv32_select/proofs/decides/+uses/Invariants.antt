use Rattle.std.proofs.Common.{◌≡◌, drop, map}
use Rattle.std.specs.Prelude.{◌||◌}
use Rattle.low_code.specs.Tree.{Code, all_before, arms_before, before_of, end_of, code_of, arm_of}
use Rattle.low_code.specs.Formed.{uses, arms_uses}
use Rattle.seq.specs.Lists.{is_among}
use Rattle.rv32_select.proofs.decides.+uses.Given as goal

abbrev pub invariant-block_uses-loop-stmt : goal.invariant-block_uses-loop-stmt
invariant-block_uses-loop-stmt l =
    (l.found || is_among l.variable
    (uses (all_before (map before_of (drop l.stmt-index l.stmt-items)) (end_of l.block.last)))) ≡
    is_among l.variable (uses (code_of l.block))

abbrev pub invariant-arms_use-loop-arm : goal.invariant-arms_use-loop-arm
invariant-arms_use-loop-arm l =
    (c : Code) →
    (l.found || is_among l.variable
    (arms_uses (arms_before (map arm_of (drop l.arm-index l.arms)) c))) ≡ is_among l.variable
    (arms_uses (arms_before (map arm_of l.arms) c))
