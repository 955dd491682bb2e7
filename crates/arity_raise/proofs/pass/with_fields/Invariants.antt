use Rattle.std.proofs.Common.{◌≡◌, length}
use Rattle.arity_raise.proofs.Rewritten.{ProcsRaise}
use Rattle.arity_raise.proofs.pass.with_fields.Given as goal

abbrev pub invariant-loop-proc : goal.invariant-loop-proc
invariant-loop-proc l = record {
  counted : l.f ≡ length l.yielded;
  some : ProcsRaise l.all l.initial.fresh.next l.f l.procs l.yielded l.fresh.next;
}
