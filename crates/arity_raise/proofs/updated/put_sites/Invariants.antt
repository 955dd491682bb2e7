use Rattle.std.proofs.Common.{map, take}
use Rattle.points_to.specs.Joined.{Joined}
use Rattle.arity_raise.proofs.updated.put_sites.Given as goal

abbrev pub invariant-loop-site : goal.invariant-loop-site
invariant-loop-site l = Joined l.initial.sites.keys (map (λ s. s.0) (take l.site-index l.more))
    l.sites.keys
