use Rattle.std.proofs.Common.{◌≡◌, ◌+◌, take, length}
use Rattle.low_code.specs.Formed.{used_by_tests}
use Rattle.register_alloc.specs.Point.{SameGiven}
use Rattle.register_alloc.proofs.registers.Registers.pass_tests.Given as goal

abbrev pub invariant-loop-test : goal.invariant-loop-test
invariant-loop-test l = record {
  at : l.self.at ≡ l.fn.self.at + length (used_by_tests (take l.test-index l.tests));
  stays : SameGiven l.fn.self l.self;
}
