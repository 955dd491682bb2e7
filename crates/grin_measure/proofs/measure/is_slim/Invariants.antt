use Rattle.std.proofs.Common.{take, map}
use Rattle.grin_syntax.specs.Tree.{procedure_of}
use Rattle.grin_measure.proofs.Procs.{SlimSoFar}
use Rattle.grin_measure.proofs.measure.is_slim.Given as goal

abbrev pub invariant-loop-proc : goal.invariant-loop-proc
invariant-loop-proc l = SlimSoFar l.sizes (map procedure_of (take l.proc-index l.proc-items)) l.all
