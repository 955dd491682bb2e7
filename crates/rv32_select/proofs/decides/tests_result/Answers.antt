use Rattle.std.proofs.Common.{length, refl}
use Rattle.rv32_select.proofs.Deciding.{bit_tested, not_one_test}
use Rattle.rv32_select.proofs.decides.tests_result.Goals as goal

pub returns-then-tests-eq1 : goal.returns-then-tests-eq1
returns-then-tests-eq1 c = bit_tested c.args.variable c.args.tests.now (length c.args.tests.now) _
    c.tests_bit.result refl c.if-tests-eq1.true c.tests_bit.ensures

pub returns : goal.returns
returns c = not_one_test c.args.variable c.args.tests.now (length c.args.tests.now) refl
    c.if-tests-eq1.false
