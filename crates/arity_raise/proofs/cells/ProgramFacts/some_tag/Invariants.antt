use Rattle.std.proofs.Common.{ℕ, map, take}
use Rattle.flow_system.specs.declared.fact.Element.TheVariants.{Tag as tag}
use Rattle.flow_system.specs.declared.fact.Place.TheVariants.{Site as site}
use Rattle.flow_system.specs.declared.fact.Part.TheVariants.{Tags as tags}
use Rattle.flow_system.specs.Solution.{At}
use Rattle.points_to.specs.Found.{found}
use Rattle.arity_raise.proofs.Each.{Each}
use Rattle.arity_raise.proofs.cells.ProgramFacts.some_tag.Given as goal

abbrev pub invariant-loop-site : goal.invariant-loop-site
invariant-loop-site l = Each (λ s. (t : ℕ) → At (found l.self.flow.now) (site s) tags (tag t) → ⊥)
    (map (λ s. s.0) (take l.site-index l.site-items))
