use Rattle.std.proofs.Common.{◌≡◌, Some, None, IfSome, slice_get}
use Rattle.register_alloc.proofs.holders.Holders.last_free.Given as goal

abbrev pub invariant-loop-register : goal.invariant-loop-register
invariant-loop-register l = IfSome l.last (λ r. slice_get l.self.of.items r ≡ Some None)
