use Rattle.std.proofs.Common.{take}
use Rattle.unbox.proofs.SoFar.{CalledFound}
use Rattle.unbox.proofs.ties.+called.Given as goal

abbrev pub invariant-alts_called-loop-alt : goal.invariant-alts_called-loop-alt
invariant-alts_called-loop-alt l = CalledFound l.initial.out l.out (take l.alt-index l.alts)
