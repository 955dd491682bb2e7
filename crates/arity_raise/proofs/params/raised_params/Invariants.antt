use Rattle.arity_raise.proofs.Fields.{ParamsSoFar}
use Rattle.arity_raise.proofs.params.raised_params.Given as goal

abbrev pub invariant-loop-at : goal.invariant-loop-at
invariant-loop-at l = ParamsSoFar l.decisions l.params l.at l.made
