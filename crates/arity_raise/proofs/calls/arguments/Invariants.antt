use Rattle.arity_raise.proofs.Fields.{ArgumentsSoFar}
use Rattle.arity_raise.proofs.calls.arguments.Given as goal

abbrev pub invariant-loop-at : goal.invariant-loop-at
invariant-loop-at l = ArgumentsSoFar l.decisions l.words l.at l.initial.fresh.next l.fresh.next
    l.initial.made l.made l.args
