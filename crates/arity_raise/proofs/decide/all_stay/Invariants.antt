use Rattle.std.proofs.Common.{take}
use Rattle.arity_raise.specs.Deciding.{NoneRaised}
use Rattle.arity_raise.proofs.decide.all_stay.Given as goal

abbrev pub invariant-loop-at : goal.invariant-loop-at
invariant-loop-at l = NoneRaised (take l.at l.params) l.made
