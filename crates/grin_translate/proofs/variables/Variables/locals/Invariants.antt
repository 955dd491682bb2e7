use Rattle.std.proofs.Common.{◌≡◌, ◌+◌, ◌*◌, map, take}
use Rattle.grin_translate.proofs.variables.Variables.locals.Given as goal
use Rattle.grin_syntax.specs.Fresh.{variable}

abbrev pub invariant-loop-x : goal.invariant-loop-x
invariant-loop-x l = l.made ≡ map (λ x. variable (l.self.base + 2 * x)) (take l.x-index l.xs)
