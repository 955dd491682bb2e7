use Rattle.pass_cells.proofs.Having.{has_none, has_more, has_all}
use Rattle.pass_cells.proofs.sets.variables.Goals as goal

pub loop-word-init : goal.loop-word-init
loop-word-init c = has_none _ c.new-set.ensures.empty

pub loop-word-preserved : goal.loop-word-preserved
loop-word-preserved c = has_more _ _ _ _ _ c.loop-word-test.true c.in_ok-put.ensures
    c.loop-word.invariant

pub returns : goal.returns
returns c = has_all _ _ _ c.loop-word-test.false c.loop-word.invariant
