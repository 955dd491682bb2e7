use Rattle.std.proofs.Common.{◌≡◌, ◌++◌, drop}
use Rattle.low_code.specs.Tree.{program_of}
use Rattle.rv32_select.specs.IsSelected.{tests_items}
use Rattle.rv32_select.specs.Writable.{TestsPlaced}
use Rattle.rv32_select.proofs.context.Context.tests.Given as goal

abbrev pub invariant-loop-test : goal.invariant-loop-test
invariant-loop-test l = record {
  made : l.code ++ tests_items (program_of l.self.low.now) l.self.places.now l.next
      (drop l.test-index l.tests) ≡ l.initial.code ++ tests_items (program_of l.self.low.now)
      l.self.places.now l.next l.tests;
  placed : TestsPlaced (program_of l.self.low.now) l.self.places.now (drop l.test-index l.tests);
}
