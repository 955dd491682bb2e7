use Rattle.unbox_theory.specs.Ends.{is_member}
use Rattle.unbox.proofs.Numbered.{ProcsMade}
use Rattle.unbox.proofs.pass.with_members.Given as goal

abbrev pub invariant-loop-proc : goal.invariant-loop-proc
invariant-loop-proc l = ProcsMade (is_member l.members.inside) l.procs l.yielded l.f
