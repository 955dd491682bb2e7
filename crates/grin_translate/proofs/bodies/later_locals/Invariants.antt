use Rattle.std.proofs.Common.{◌≡◌, [], ◌++◌, map}
use Rattle.arity_check.specs.declared.normal.Var.TheVariants.{Local}
use Rattle.grin_translate.proofs.bodies.later_locals.Given as goal
use Rattle.seq.specs.Lists.{numbers_from}

abbrev pub invariant-loop-x : goal.invariant-loop-x
invariant-loop-x l = l.locals ≡ [] ++ map Local (numbers_from 1 l.x)
