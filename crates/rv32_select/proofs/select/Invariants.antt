use Rattle.low_code.specs.Tree.{program_of}
use Rattle.rv32_select.proofs.Entered.{Procedures}
use Rattle.rv32_select.proofs.select.Given as goal

abbrev pub invariant-loop-proc : goal.invariant-loop-proc
invariant-loop-proc l = Procedures (program_of l.low) l.places l.cells l.stack
    (program_of l.low).procs l.proc l.initial.out.code l.initial.out.next l.out.code l.out.next
