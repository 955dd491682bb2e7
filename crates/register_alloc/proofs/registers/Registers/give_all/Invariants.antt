use Rattle.std.proofs.Common.{take}
use Rattle.register_alloc.proofs.GivingPlaces.{SoFar}
use Rattle.register_alloc.proofs.registers.Registers.give_all.Given as goal

abbrev pub invariant-loop-i : goal.invariant-loop-i
invariant-loop-i l = SoFar (take l.i l.variables) l.fn.self l.fn.holders.of.items l.self
    l.holders.of.items
