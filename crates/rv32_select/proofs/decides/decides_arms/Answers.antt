use Rattle.std.proofs.Common.{◌∙◌, ap}
use Rattle.rv32_select.specs.Decides.{tests_result}
use Rattle.low_code.specs.Tree.{code_of}
use Rattle.rv32_select.proofs.Deciding.{arms_decide, arms_leave, no_arm}
use Rattle.rv32_select.proofs.decides.decides_arms.Goals as goal

pub returns-in-None : goal.returns-in-None
returns-in-None c = no_arm c.args.variable c.args.arms.now (code_of c.args.otherwise.now)
    c.in-None.ensures.cases

pub returns-then-tests_result : goal.returns-then-tests_result
returns-then-tests_result c =
    arms_decide c.args.variable c.args.arms.now c.in-Some.others.now c.in-Some.first.now
    (code_of c.args.otherwise.now) c.tests_result.result c.block_uses-then-tests_result.result
    c.arms_use.result c.block_uses.result c.either-later.result c.either.result
    c.in-Some.ensures.cases.0
    (c.tests_result.ensures ∙ ap (tests_result c.args.variable) c.as_slice.ensures)
    c.if-tests_result.true c.block_uses-then-tests_result.ensures c.arms_use.ensures
    c.block_uses.ensures c.either-later.ensures c.either.ensures

pub returns-else-tests_result : goal.returns-else-tests_result
returns-else-tests_result c = arms_leave c.args.variable c.args.arms.now c.in-Some.others.now
    c.in-Some.first.now (code_of c.args.otherwise.now) c.tests_result.result
    c.in-Some.ensures.cases.0
    (c.tests_result.ensures ∙ ap (tests_result c.args.variable) c.as_slice.ensures)
    c.if-tests_result.false
