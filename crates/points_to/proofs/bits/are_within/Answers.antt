use Rattle.std.specs.List.{flat_map}
use Rattle.points_to.specs.Bits.{block_words}
use Rattle.points_to.proofs.BlockSets.{within_more}
use Rattle.points_to.proofs.bits.are_within.Goals as goal

pub loop-block-preserved : goal.loop-block-preserved
loop-block-preserved c = within_more block_words (flat_map block_words c.args.others.now) _ _ _
    c.loop-block-test.true c.loop-block.invariant (c.has_block.ensures c.if-not-has_block.false)
