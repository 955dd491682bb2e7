use Rattle.std.proofs.Common.{take}
use Rattle.register_alloc.specs.Gathered.{AreSpots}
use Rattle.register_alloc.proofs.assign.spots.Given as goal

abbrev pub invariant-loop-place : goal.invariant-loop-place
invariant-loop-place l = AreSpots (take l.place-index l.given) l.spots.items
