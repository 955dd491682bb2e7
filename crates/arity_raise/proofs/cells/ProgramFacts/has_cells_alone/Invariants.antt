use Rattle.std.proofs.Common.{map, take}
use Rattle.flow_system.specs.declared.fact.Element.TheVariants.{Tag as tag}
use Rattle.flow_system.specs.declared.fact.Place.TheVariants.{Var as var}
use Rattle.flow_system.specs.declared.fact.Part.TheVariants.{Word as word}
use Rattle.flow_system.specs.Solution.{At}
use Rattle.points_to.specs.Found.{found}
use Rattle.arity_raise.proofs.Each.{Each}
use Rattle.arity_raise.proofs.cells.ProgramFacts.has_cells_alone.Given as goal

abbrev pub invariant-loop-tag : goal.invariant-loop-tag
invariant-loop-tag l = Each (λ t. At (found l.self.flow.now) (var l.x.0) (word 0) (tag t) → ⊥)
    (map (λ t. t.0) (take l.tag-index l.tag-items))
