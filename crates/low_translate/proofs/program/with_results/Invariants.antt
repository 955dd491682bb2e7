use Rattle.low_translate.proofs.Programs.{ProcsSoFar}
use Rattle.low_translate.proofs.program.with_results.Given as goal

abbrev pub invariant-loop-f : goal.invariant-loop-f
invariant-loop-f l = ProcsSoFar l.plan.width l.plan.results.now l.initial.numbers.next
    l.numbers.next l.procs l.proc-items l.f
