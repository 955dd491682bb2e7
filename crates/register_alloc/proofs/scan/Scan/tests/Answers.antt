use Rattle.std.proofs.Common.{rules}
use Rattle.register_alloc.proofs.Scanned.{tests_pushed}
use Rattle.register_alloc.proofs.scan.Scan.tests.Goals as goal

pub loop-test-preserved : goal.loop-test-preserved
loop-test-preserved c = record {
  used = tests_pushed c.args.tests.now c.loop-test.test-index c.args.self.now.used.items
      c.loop-test.self.used.items c.operand.new.self.used.items _ c.loop-test-test.true
      c.in_ok-operand.ensures.used c.loop-test.invariant.used;
  sizes = search rules;
}
