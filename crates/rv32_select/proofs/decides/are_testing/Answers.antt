use Rattle.rv32_select.proofs.VariableUsed.{testing_next, testing_all}
use Rattle.rv32_select.proofs.decides.are_testing.Goals as goal

pub loop-test-preserved : goal.loop-test-preserved
loop-test-preserved c =
    testing_next c.args.variable c.args.tests.now c.loop-test.test-index _ c.loop-test.found
    c.either-found.result c.is_var.result _ c.loop-test-test.true c.is_var.ensures
    c.either-found.ensures c.loop-test.invariant

pub returns : goal.returns
returns c = testing_all c.args.variable c.args.tests.now c.loop-test.test-index c.loop-test.found _
    c.loop-test-test.false c.loop-test.invariant
