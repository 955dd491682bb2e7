use Rattle.std.proofs.Common.{ℕ, ◌<◌}
use Rattle.register_alloc.specs.Holders.{HoldsRegister}
use Rattle.register_alloc.specs.declared.holders.Holder.{Holder}
use Rattle.register_alloc.proofs.holders.Holders.first_free.Given as goal

abbrev pub invariant-loop-register : goal.invariant-loop-register
invariant-loop-register l = (r : ℕ) → r < l.register → (d : Holder)
    × HoldsRegister l.self.of.items r d
