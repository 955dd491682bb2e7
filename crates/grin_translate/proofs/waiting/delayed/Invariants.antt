use Rattle.std.proofs.Common.{◌≡◌, ◌++◌, filter, take}
use Rattle.arity_check.specs.Program.{program}
use Rattle.grin_translate.specs.Tags.{is_delayed}
use Rattle.grin_translate.proofs.waiting.delayed.Given as goal

abbrev pub invariant-loop-delay : goal.invariant-loop-delay
invariant-loop-delay l = l.found.items ≡ l.initial.found.items
    ++ filter (is_delayed (program l.p)) (take l.delay-index l.forms)
