use Rattle.std.proofs.Common.{take}
use Rattle.points_to.specs.Worklist.{RegistersAt}
use Rattle.points_to.proofs.worklist.Worklist.register.Given as goal

abbrev pub invariant-loop-place : goal.invariant-loop-place
invariant-loop-place l = RegistersAt l.initial.self l.self l.n (take l.place-index l.places)
