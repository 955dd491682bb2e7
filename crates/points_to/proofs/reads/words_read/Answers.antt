use Rattle.points_to.specs.Reads.{word_reads}
use Rattle.points_to.proofs.Loops.{flat_next, flat_done}
use Rattle.points_to.proofs.reads.words_read.Goals as goal

pub loop-word-preserved : goal.loop-word-preserved
loop-word-preserved c = flat_next word_reads _ _ _ _ _ _ c.loop-word-test.true c.loop-word.invariant
    c.in_ok-word_reads.ensures

pub returns : goal.returns
returns c = flat_done word_reads _ _ _ _ c.loop-word-test.false c.loop-word.invariant
