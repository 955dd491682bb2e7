use Rattle.register_alloc.proofs.Masks.{Round}
use Rattle.register_alloc.proofs.written.round.Given as goal

abbrev pub invariant-loop-f : goal.invariant-loop-f
invariant-loop-f l = Round l.calls l.fn.masks.items l.masks.items l.grew l.f
