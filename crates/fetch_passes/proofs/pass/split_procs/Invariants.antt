use Rattle.std.proofs.Common.{take}
use Rattle.fetch_passes.proofs.Splits.{ProcsSoFar}
use Rattle.fetch_passes.proofs.pass.split_procs.Given as goal

abbrev pub invariant-loop-proc : goal.invariant-loop-proc
invariant-loop-proc l = ProcsSoFar l.tags l.initial.fresh.next l.fresh.next
    (take l.proc-index l.procs) l.made
