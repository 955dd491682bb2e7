use Rattle.std.proofs.Common.{◌≡◌, ◌+◌, take, length}
use Rattle.low_code.specs.Formed.{used_by_all}
use Rattle.register_alloc.specs.Point.{SameGiven}
use Rattle.register_alloc.proofs.registers.Registers.pass_operands.Given as goal

abbrev pub invariant-loop-operand : goal.invariant-loop-operand
invariant-loop-operand l = record {
  at : l.self.at ≡ l.fn.self.at + length (used_by_all (take l.operand-index l.operands));
  stays : SameGiven l.fn.self l.self;
}
