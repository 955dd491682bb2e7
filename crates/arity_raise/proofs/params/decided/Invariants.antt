use Rattle.arity_raise.proofs.Fields.{NotBefore}
use Rattle.arity_raise.proofs.params.decided.Given as goal

abbrev pub invariant-loop-at : goal.invariant-loop-at
invariant-loop-at l = NotBefore l.decisions l.params l.x.0 l.at
