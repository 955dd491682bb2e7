use Rattle.std.proofs.Common.{subst}
use Rattle.std.specs.List.{flat_map}
use Rattle.points_to.specs.Bits.{block_words}
use Rattle.points_to.specs.Held.{In}
use Rattle.points_to.proofs.Rows.{within_gets}
use Rattle.points_to.proofs.stored.put_all.Goals as goal

pub returns-then-are_within : goal.returns-then-are_within
returns-then-are_within c = within_gets c.args.met.now.blocks.items c.args.blocks.now
    (λ u h. subst (λ bs. In u (flat_map block_words bs)) c.as_slice.ensures.value
    (c.are_within.ensures c.if-are_within.true u h))
