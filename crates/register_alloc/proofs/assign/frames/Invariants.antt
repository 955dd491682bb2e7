use Rattle.std.proofs.Common.{◌≡◌, take}
use Rattle.register_alloc.specs.Gathered.{frames_of}
use Rattle.register_alloc.proofs.assign.frames.Given as goal

abbrev pub invariant-loop-walk : goal.invariant-loop-walk
invariant-loop-walk l = l.frames.items ≡ frames_of l.saves (take l.walk-index l.walks)
