use Rattle.std.proofs.Common.{rules}
use Rattle.register_alloc.proofs.Scanned.{operands_pushed}
use Rattle.register_alloc.proofs.scan.Scan.operands.Goals as goal

pub loop-operand-preserved : goal.loop-operand-preserved
loop-operand-preserved c = record {
  used = operands_pushed c.args.operands.now c.loop-operand.operand-index c.args.self.now.used.items
      c.loop-operand.self.used.items c.operand.new.self.used.items _ c.loop-operand-test.true
      c.in_ok-operand.ensures.used c.loop-operand.invariant.used;
  sizes = search rules;
}
