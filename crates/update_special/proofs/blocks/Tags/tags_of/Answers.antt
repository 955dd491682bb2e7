use Rattle.std.proofs.Common.{arith}
use Rattle.update_special.proofs.Listed.{all_made}
use Rattle.update_special.proofs.blocks.Tags.tags_of.Goals as goal

pub returns : goal.returns
returns c = all_made _ _ _ _ _ _ c.nodes_of-tag-items.ensures.ascending
    c.nodes_of-tag-items.ensures.exact (omega arith) c.loop-tag.invariant
