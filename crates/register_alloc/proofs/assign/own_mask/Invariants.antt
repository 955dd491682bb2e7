use Rattle.std.proofs.Common.{take}
use Rattle.register_alloc.specs.Gathered.{IsOwnMask}
use Rattle.register_alloc.proofs.assign.own_mask.Given as goal

abbrev pub invariant-loop-place : goal.invariant-loop-place
invariant-loop-place l = IsOwnMask l.mask (take l.place-index l.given) l.all
