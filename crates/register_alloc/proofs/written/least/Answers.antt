use Rattle.std.proofs.Common.{refl, ◌∙◌}
use Rattle.register_alloc.specs.Rounds.{same}
use Rattle.register_alloc.proofs.Masks.{grown_through, grown_length, are_least}
use Rattle.register_alloc.proofs.written.least.Goals as goal

pub loop-init : goal.loop-init
loop-init c = record { grows = same; many = c.requires; calls = refl }

pub loop-preserved : goal.loop-preserved
loop-preserved c = record {
  grows = grown_through _ _ _ _ c.loop.invariant.grows c.round.ensures.grows;
  many = grown_length _ _ _ c.round.ensures.grows ∙ c.loop.invariant.many;
  calls = refl;
}

pub returns-clause-many : goal.returns-clause-many
returns-clause-many c = grown_length _ _ _
    (grown_through _ _ _ _ c.loop.invariant.grows c.round.ensures.grows)

pub returns-clause-least : goal.returns-clause-least
returns-clause-least c =
    are_least _ _ _ (grown_through _ _ _ _ c.loop.invariant.grows c.round.ensures.grows)
    (c.round.ensures.whole c.loop-test.false)
