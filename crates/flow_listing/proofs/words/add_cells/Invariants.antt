use Rattle.std.proofs.Common.{◌≡◌, ◌++◌, map, take}
use Rattle.flow_system.specs.declared.fact.Element.TheVariants.{Cell}
use Rattle.flow_listing.proofs.words.add_cells.Given as goal

abbrev pub invariant-loop-site : goal.invariant-loop-site
invariant-loop-site l = l.out ≡ l.initial.out ++ map (λ s. Cell s.0) (take l.site-index l.sites)
