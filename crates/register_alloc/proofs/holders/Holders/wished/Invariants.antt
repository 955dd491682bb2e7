use Rattle.std.proofs.Common.{◌≡◌, Some, None, IfSome, slice_get}
use Rattle.register_alloc.proofs.holders.Holders.wished.Given as goal

abbrev pub invariant-loop-wish : goal.invariant-loop-wish
invariant-loop-wish l = IfSome l.found (λ r. slice_get l.self.of.items r ≡ Some None)
