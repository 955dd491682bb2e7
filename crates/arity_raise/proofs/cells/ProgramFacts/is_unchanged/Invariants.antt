use Rattle.std.proofs.Common.{map, take}
use Rattle.grin_syntax.specs.Tree.{program_of}
use Rattle.points_to.specs.Found.{found}
use Rattle.raise_theory.specs.Raisable.{NeverUpdated}
use Rattle.arity_raise.proofs.Each.{Each}
use Rattle.arity_raise.proofs.cells.ProgramFacts.is_unchanged.Given as goal

abbrev pub invariant-loop-site : goal.invariant-loop-site
invariant-loop-site l = Each (NeverUpdated (found l.self.flow.now) (program_of l.self.g.now))
    (map (λ s. s.0) (take l.site-index l.site-items))
