use Rattle.std.proofs.Common.{refl}
use Rattle.copy_prop.proofs.Used.{words_next}
use Rattle.copy_prop.proofs.uses.Uses.note_words.Goals as goal

pub loop-word-preserved : goal.loop-word-preserved
loop-word-preserved c = words_next _ _ _ _ _ _ _ c.loop-word-test.true refl c.loop-word.invariant
    c.in_ok-note_word.ensures
