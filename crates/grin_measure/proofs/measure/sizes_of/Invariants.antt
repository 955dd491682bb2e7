use Rattle.std.proofs.Common.{◌≡◌, take, map}
use Rattle.grin_syntax.specs.Tree.{procedure_of}
use Rattle.grin_measure.proofs.Procs.{MeasuredSoFar}
use Rattle.grin_measure.proofs.measure.sizes_of.Given as goal

abbrev pub invariant-loop-proc : goal.invariant-loop-proc
invariant-loop-proc l = MeasuredSoFar (map procedure_of (take l.proc-index l.proc-items)) l.all
    l.largest
