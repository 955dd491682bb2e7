use Rattle.points_to.proofs.BlockSets.{single_word}
use Rattle.points_to.proofs.bits.block_of.Goals as goal

pub returns : goal.returns
returns c = single_word c.args.word c.number_of-n.result c.with_bit.result
    c.number_of-n.ensures.number c.with_bit.ensures.set c.with_bit.ensures.others
