use Rattle.std.proofs.Common.{◌≡◌, map}
use Rattle.grin_translate.specs.declared.tags.Delay.TheVariants.{Calls}
use Rattle.grin_translate.proofs.waiting.calls.Given as goal
use Rattle.seq.specs.Lists.{numbers_from}

abbrev pub invariant-loop-f : goal.invariant-loop-f
invariant-loop-f l = l.found.items ≡ map Calls (numbers_from 0 l.f)
