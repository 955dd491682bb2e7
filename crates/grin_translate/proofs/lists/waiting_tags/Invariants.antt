use Rattle.std.proofs.Common.{◌≡◌, ◌++◌, map, take}
use Rattle.arity_check.specs.Program.{program}
use Rattle.grin_translate.specs.declared.tags.Kind.TheVariants.{Waits}
use Rattle.grin_translate.specs.Tags.{tag_of}
use Rattle.grin_translate.proofs.lists.waiting_tags.Given as goal

abbrev pub invariant-loop-delay : goal.invariant-loop-delay
invariant-loop-delay l = l.made ≡ l.initial.made ++ map
    (λ d. tag_of (program l.numbered.p.now) (Waits d))
    (take l.delay-index l.numbered.numbers.delays)
