use Rattle.std.proofs.Common.{◌≡◌, ◌++◌, take}
use Rattle.low_code.specs.Formed.{used_by_tests}
use Rattle.register_alloc.proofs.scan.Scan.tests.Given as goal

abbrev pub invariant-loop-test : goal.invariant-loop-test
invariant-loop-test l = record {
  used : l.self.used.items ≡ l.fn.self.used.items ++ used_by_tests (take l.test-index l.tests);
  sizes : l.self.sizes.items ≡ l.fn.self.sizes.items;
}
