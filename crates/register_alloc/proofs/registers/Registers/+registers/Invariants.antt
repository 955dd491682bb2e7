use Rattle.register_alloc.proofs.Steps.{StmtsDone, ArmsDone}
use Rattle.register_alloc.proofs.registers.Registers.+registers.Given as goal

abbrev pub invariant-arms-loop-arm : goal.invariant-arms-loop-arm
invariant-arms-loop-arm l = ArmsDone l.text l.arms l.arm-index l.fn.self l.holders.of.items l.self

abbrev pub invariant-block-loop-stmt : goal.invariant-block-loop-stmt
invariant-block-loop-stmt l = StmtsDone l.text l.end l.stmt-items l.stmt-index l.fn.self
    l.fn.holders.of.items l.self l.holders.of.items
