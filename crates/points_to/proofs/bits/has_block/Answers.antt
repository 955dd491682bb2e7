use Rattle.points_to.proofs.BlockSets.{has_words}
use Rattle.points_to.proofs.bits.has_block.Goals as goal

pub returns : goal.returns
returns c = λ t.
    let stands = c.stands_at.ensures c.if-not-stands_at.false in
    has_words c.args.blocks.now c.args.block c.args.place stands.within stands.number
    (c.is_within.ensures t)
