use Rattle.std.proofs.Common.{◌≡◌, take}
use Rattle.grin_syntax.specs.Tree.{program_of}
use Rattle.points_to.specs.Found.{found}
use Rattle.arity_raise.proofs.Chosen.{PlanSoFar}
use Rattle.arity_raise.proofs.decide.plan.Given as goal

abbrev pub invariant-loop-proc : goal.invariant-loop-proc
invariant-loop-proc l = record {
  counted : l.f ≡ l.proc-index;
  some : PlanSoFar (found l.flow) (program_of l.g) (take l.proc-index l.proc-items) l.proc-index
      l.procs l.initial.fresh.next l.fresh.next;
}
