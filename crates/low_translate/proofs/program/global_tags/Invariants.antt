use Rattle.std.proofs.Common.{◌≡◌, take, map}
use Rattle.low_translate.proofs.program.global_tags.Given as goal

abbrev pub invariant-loop-global : goal.invariant-loop-global
invariant-loop-global l = l.made ≡ map (λ c. c.tag.0) (take l.global-index l.globals)
