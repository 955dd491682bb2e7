use Rattle.std.proofs.Common.{◌≡◌, ◌++◌, drop}
use Rattle.flow_system.specs.Shown.{tables_of}
use Rattle.flow_system.specs.declared.fact.Part.TheVariants.{Word}
use Rattle.points_to.specs.Asked.{vector_facts}
use Rattle.points_to.specs.Held.{numbered}
use Rattle.points_to.specs.Known.{held}
use Rattle.points_to.proofs.targets.words_to_vector.Given as goal

abbrev pub invariant-loop-x : goal.invariant-loop-x
invariant-loop-x l =
    let X = numbered (tables_of l.system) (held l.facts) Word 0 l.words in
    l.out ++ vector_facts (tables_of l.system) X l.j (drop l.x-index l.xs) ≡ l.initial.out
    ++ vector_facts (tables_of l.system) X 0 l.xs
