use Rattle.std.proofs.Common.{◌≡◌, map, take}
use Rattle.arity_raise.proofs.Each.{Each}
use Rattle.arity_raise.proofs.cells.ProgramFacts.site_has_only.Given as goal

abbrev pub invariant-loop-other : goal.invariant-loop-other
invariant-loop-other l = Each (λ u. u ≡ l.tag.0) (map (λ t. t.0) (take l.other-index l.other-items))
