use Rattle.points_to.proofs.Spotted.{already}
use Rattle.points_to.proofs.value_word.note_block.Goals as goal

pub returns-then-is_all-clause-has : goal.returns-then-is_all-clause-has
returns-then-is_all-clause-has c = already _ _ _ (c.is_all.ensures c.if-is_all.true).0
    c.words.invariant.has

pub returns-then-is_all-clause-fewer : goal.returns-then-is_all-clause-fewer
returns-then-is_all-clause-fewer c = already _ _ _ (c.is_all.ensures c.if-is_all.true).1
    c.words.invariant.fewer
