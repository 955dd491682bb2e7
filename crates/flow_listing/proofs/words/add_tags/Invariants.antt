use Rattle.std.proofs.Common.{◌≡◌, ◌++◌, map, take}
use Rattle.flow_system.specs.declared.fact.Element.TheVariants.{Tag}
use Rattle.flow_listing.proofs.words.add_tags.Given as goal

abbrev pub invariant-loop-tag : goal.invariant-loop-tag
invariant-loop-tag l = l.out ≡ l.initial.out ++ map (λ t. Tag t.0) (take l.tag-index l.tags)
