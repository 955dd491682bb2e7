use Rattle.std.proofs.Common.{take}
use Rattle.register_alloc.specs.Gathered.{IsSavedOf}
use Rattle.register_alloc.proofs.assign.saved.Given as goal

abbrev pub invariant-loop-register : goal.invariant-loop-register
invariant-loop-register l = IsSavedOf (take l.register-index l.live) l.mask l.saved
