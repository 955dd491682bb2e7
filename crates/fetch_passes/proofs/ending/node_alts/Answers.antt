use Rattle.std.proofs.Common.{rules}
use Rattle.fetch_passes.proofs.Ends.{arms_next}
use Rattle.fetch_passes.proofs.ending.node_alts.Goals as goal

pub loop-at-preserved : goal.loop-at-preserved
loop-at-preserved c = arms_next c.args.vars.now c.args.tags.now c.loop-at.at c.index-tags-at.result
    _ _ c.in_ok-node_alt.field-0 c.loop-at-test.true (search rules) c.loop-at.invariant
    c.in_ok-node_alt.ensures c.in_ok-push.ensures.ok
