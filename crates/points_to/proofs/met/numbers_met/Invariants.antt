use Rattle.std.proofs.Common.{[], take}
use Rattle.std.specs.List.{flat_map}
use Rattle.points_to.specs.Rows.{numbers_in, GainsMembers}
use Rattle.points_to.specs.Stored.{sets_at}
use Rattle.points_to.proofs.met.numbers_met.Given as goal

abbrev pub invariant-loop-site : goal.invariant-loop-site
invariant-loop-site l = GainsMembers [] (numbers_in l.met)
    (flat_map (λ s. sets_at l.sets s.0) (take l.site-index l.sites))
