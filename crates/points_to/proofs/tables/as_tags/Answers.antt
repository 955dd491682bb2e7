use Rattle.points_to.proofs.Loops.{map_next, map_done}
use Rattle.points_to.proofs.tables.as_tags.Goals as goal
use Rattle.grin_syntax.specs.Tags.{tag_id}

pub loop-n-preserved : goal.loop-n-preserved
loop-n-preserved c = map_next tag_id _ _ _ _ _ _ c.loop-n-test.true c.loop-n.invariant
    c.in_ok-push.ensures.ok

pub returns : goal.returns
returns c = map_done tag_id _ _ _ _ c.loop-n-test.false c.loop-n.invariant
