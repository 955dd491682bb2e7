use Rattle.std.proofs.Common.{◌≡◌, take}
use Rattle.grin_compile.proofs.layers.frames.Given as goal

abbrev pub invariant-loop-proc : goal.invariant-loop-proc
invariant-loop-proc l = l.frames.items ≡ take l.proc l.places.frames
