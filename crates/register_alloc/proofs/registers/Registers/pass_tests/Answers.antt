use Rattle.std.proofs.Common.{◌∙◌}
use Rattle.register_alloc.proofs.Scanned.{tests_passed}
use Rattle.register_alloc.proofs.Walking.{given_on}
use Rattle.register_alloc.proofs.registers.Registers.pass_tests.Goals as goal

pub loop-test-preserved : goal.loop-test-preserved
loop-test-preserved c = record {
  at = c.in_ok-pass.ensures.at ∙ tests_passed c.args.tests.now c.loop-test.test-index
      c.args.self.now.at c.loop-test.self.at c.uses_of.result _ c.loop-test-test.true
      c.uses_of.ensures c.loop-test.invariant.at;
  stays = given_on c.args.self.now c.loop-test.self c.pass.new.self c.loop-test.invariant.stays
      c.in_ok-pass.ensures.stays;
}
