use Rattle.arity_raise.proofs.Sites.{proc_words_next}
use Rattle.arity_raise.proofs.updated.updated_words.Goals as goal

pub loop-proc-preserved : goal.loop-proc-preserved
loop-proc-preserved c = proc_words_next _ _ _ _ _ c.loop-proc-test.true c.proc-item.is
    c.in_ok-block_updated.ensures c.loop-proc.invariant
