use Rattle.std.proofs.Common.{◌≡◌, take}
use Rattle.register_alloc.specs.Gathered.{longest_at}
use Rattle.register_alloc.proofs.assign.most_saved.Given as goal

abbrev pub invariant-loop-call : goal.invariant-loop-call
invariant-loop-call l = l.most ≡ longest_at l.saves (take l.call-index l.calls)
