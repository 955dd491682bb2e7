use Rattle.std.proofs.Common.{◌∙◌}
use Rattle.register_alloc.proofs.Scanned.{operands_passed}
use Rattle.register_alloc.proofs.Walking.{given_on}
use Rattle.register_alloc.proofs.registers.Registers.pass_operands.Goals as goal

pub loop-operand-preserved : goal.loop-operand-preserved
loop-operand-preserved c = record {
  at = c.in_ok-pass.ensures.at ∙ operands_passed c.args.operands.now c.loop-operand.operand-index
      c.args.self.now.at c.loop-operand.self.at c.uses_of.result _ c.loop-operand-test.true
      c.uses_of.ensures c.loop-operand.invariant.at;
  stays = given_on c.args.self.now c.loop-operand.self c.pass.new.self
      c.loop-operand.invariant.stays c.in_ok-pass.ensures.stays;
}
