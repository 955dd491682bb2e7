use Rattle.std.proofs.Common.{take}
use Rattle.points_to.specs.Found.{found}
use Rattle.unbox.proofs.Numbered.{TiesMade}
use Rattle.unbox.proofs.ties.ties.Given as goal

abbrev pub invariant-loop-proc : goal.invariant-loop-proc
invariant-loop-proc l = TiesMade (found l.flow) l.made (take l.proc-index l.procs) l.f
