use Rattle.std.proofs.Common.{rules}
use Rattle.grin_syntax.proofs.Placed.{places_more}
use Rattle.grin_syntax.proofs.ranks.places.Goals as goal

pub loop-at-preserved : goal.loop-at-preserved
loop-at-preserved c = λ x. places_more _ _ x _ _ (search rules) (c.loop-at.invariant x)
    (c.in_ok-note_place.ensures x)
