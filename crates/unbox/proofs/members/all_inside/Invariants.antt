use Rattle.unbox.proofs.Sweeping.{AllIn}
use Rattle.unbox.proofs.members.all_inside.Given as goal

abbrev pub invariant-loop : goal.invariant-loop
invariant-loop l = AllIn l.inside l.counter
