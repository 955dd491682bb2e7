use Rattle.dead_store.proofs.Contract.{is_stored, is_kept}
use Rattle.dead_store.proofs.pass.without_dead_stores.Goals as goal

pub returns-clause-shape : goal.returns-clause-shape
returns-clause-shape c = is_stored _ _ _ c.requires.of_vectors c.requires.by_words c.requires.solves
    c.in_ok-h.ensures

pub returns-clause-meaning : goal.returns-clause-meaning
returns-clause-meaning c = is_kept _ _ _ c.requires.of_vectors c.requires.by_words c.requires.solves
    c.in_ok-h.ensures
