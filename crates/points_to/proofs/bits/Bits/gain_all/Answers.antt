use Rattle.points_to.specs.Bits.{block_numbers}
use Rattle.points_to.specs.Rows.{numbers_in}
use Rattle.points_to.proofs.Gets.{gets_none, gets_next, gets_done}
use Rattle.points_to.proofs.bits.Bits.gain_all.Goals as goal

pub loop-block-init : goal.loop-block-init
loop-block-init c = gets_none (numbers_in c.args.self.now)

pub loop-block-preserved : goal.loop-block-preserved
loop-block-preserved c = gets_next block_numbers c.args.blocks.now _ _ _ (0, 0) _
    c.loop-block-test.true c.loop-block.invariant c.in_ok-gained.ensures

pub returns : goal.returns
returns c = gets_done block_numbers c.args.blocks.now _ _ _ c.loop-block-test.false
    c.loop-block.invariant
