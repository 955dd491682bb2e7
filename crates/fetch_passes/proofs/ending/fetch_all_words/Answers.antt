use Rattle.fetch_passes.proofs.Ends.{words_next}
use Rattle.fetch_passes.proofs.ending.fetch_all_words.Goals as goal

pub loop-at-preserved : goal.loop-at-preserved
loop-at-preserved c = words_next c.args.cell c.args.vars.now c.loop-at.at (record { 0 = 0 }) _ _ _
    c.loop-at-test.true c.loop-at.invariant c.in_ok-word_fetch.ensures
