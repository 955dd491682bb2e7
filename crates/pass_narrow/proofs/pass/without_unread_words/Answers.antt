use Rattle.pass_narrow.proofs.Contract.{is_narrow, is_kept}
use Rattle.pass_narrow.proofs.pass.without_unread_words.Goals as goal

pub returns-clause-shape : goal.returns-clause-shape
returns-clause-shape c = is_narrow _ _ _ c.requires.of_vectors c.requires.solves c.in_ok-h.ensures

pub returns-clause-meaning : goal.returns-clause-meaning
returns-clause-meaning c = is_kept _ _ _ c.requires.of_vectors c.requires.solves c.in_ok-h.ensures
