use Rattle.register_alloc.proofs.Pairs.{RegistersUpTo}
use Rattle.register_alloc.proofs.holders.Holders.registers.Given as goal

abbrev pub invariant-loop-register : goal.invariant-loop-register
invariant-loop-register l = RegistersUpTo l.self.of.items l.register l.registers
