use Rattle.std.proofs.Common.{◌≡◌, ◌++◌, drop}
use Rattle.flow_system.specs.Shown.{tables_of}
use Rattle.points_to.specs.Asked.{vector_facts}
use Rattle.points_to.proofs.targets.vector_facts.Given as goal

abbrev pub invariant-loop-x : goal.invariant-loop-x
invariant-loop-x l = l.out ++ vector_facts (tables_of l.system) l.items l.j (drop l.x-index l.xs) ≡
    l.initial.out ++ vector_facts (tables_of l.system) l.items 0 l.xs
