use Rattle.points_to.proofs.BlockSets.{single}
use Rattle.points_to.proofs.stored.number_block.Goals as goal

pub returns : goal.returns
returns c = single c.args.n _ c.with_bit.ensures.set c.with_bit.ensures.others
