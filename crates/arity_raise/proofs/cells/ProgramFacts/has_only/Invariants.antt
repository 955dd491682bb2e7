use Rattle.std.proofs.Common.{map, take}
use Rattle.points_to.specs.Found.{found}
use Rattle.arity_raise.specs.Fixed.{SiteHasOnly}
use Rattle.arity_raise.proofs.Each.{Each}
use Rattle.arity_raise.proofs.cells.ProgramFacts.has_only.Given as goal

abbrev pub invariant-loop-site : goal.invariant-loop-site
invariant-loop-site l = Each (λ s. SiteHasOnly (found l.self.flow.now) s l.tag.0)
    (map (λ s. s.0) (take l.site-index l.site-items))
