use Rattle.std.proofs.Common.{◌≡◌, ◌++◌, take}
use Rattle.low_code.specs.Formed.{used_by_all}
use Rattle.register_alloc.proofs.scan.Scan.operands.Given as goal

abbrev pub invariant-loop-operand : goal.invariant-loop-operand
invariant-loop-operand l = record {
  used : l.self.used.items ≡ l.fn.self.used.items ++ used_by_all (take l.operand-index l.operands);
  sizes : l.self.sizes.items ≡ l.fn.self.sizes.items;
}
