use Rattle.arity_raise.proofs.Fields.{FieldsSoFar}
use Rattle.arity_raise.proofs.calls.put_fields.Given as goal

abbrev pub invariant-loop-i : goal.invariant-loop-i
invariant-loop-i l = FieldsSoFar l.cell l.initial.fresh.next l.fresh.next l.i l.initial.made l.made
    l.initial.args l.args
