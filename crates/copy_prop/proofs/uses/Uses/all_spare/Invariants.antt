use Rattle.std.proofs.Common.{◌≡◌, take, drop}
use Rattle.grin_syntax.specs.Binders.{numbers_of}
use Rattle.copy_prop.specs.Lean.{are_disjoint}
use Rattle.copy_prop.proofs.uses.Uses.all_spare.Given as goal

abbrev pub invariant-loop-x : goal.invariant-loop-x
invariant-loop-x l = l.spare ≡ are_disjoint (numbers_of (take l.x-index l.xs)) (drop l.from l.self)
