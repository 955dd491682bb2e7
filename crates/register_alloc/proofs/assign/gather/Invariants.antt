use Rattle.std.proofs.Common.{take, map}
use Rattle.register_alloc.specs.Gathered.{IsGathered}
use Rattle.low_code.specs.Tree.{procedure_of}
use Rattle.register_alloc.proofs.assign.gather.Given as goal

abbrev pub invariant-loop-proc : goal.invariant-loop-proc
invariant-loop-proc l = IsGathered l.all (map procedure_of (take l.proc-index l.procs))
