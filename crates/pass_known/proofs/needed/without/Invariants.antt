use Rattle.std.proofs.Common.{◌≡◌, map, take}
use Rattle.pass_known.specs.Needed.{without}
use Rattle.pass_known.proofs.needed.without.Given as goal

abbrev pub invariant-tags : goal.invariant-tags
invariant-tags l = map (λ t. t.0) l.made ≡ without l.tag.0
    (map (λ t. t.0) (take l.other-index l.tags))
