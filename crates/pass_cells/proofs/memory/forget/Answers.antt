use Rattle.pass_cells.proofs.Listed.{forget_none, forget_next, forget_all}
use Rattle.pass_cells.proofs.memory.forget.Goals as goal

pub loop-word-init : goal.loop-word-init
loop-word-init c = forget_none c.args.entries.now

pub loop-word-preserved : goal.loop-word-preserved
loop-word-preserved c = forget_next _ _ _ _ _ _ c.loop-word-test.true c.in_ok-forget_word.ensures.is
    c.in_ok-forget_word.ensures.more c.loop-word.invariant

pub returns-clause-is : goal.returns-clause-is
returns-clause-is c = (forget_all _ _ _ _ c.loop-word-test.false c.loop-word.invariant).is

pub returns-clause-more : goal.returns-clause-more
returns-clause-more c = (forget_all _ _ _ _ c.loop-word-test.false c.loop-word.invariant).more
