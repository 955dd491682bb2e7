use Rattle.dead_store.proofs.pass.DeadStoresPass.apply.Goals as goal

pub without_dead_stores-requires-clause-of_vectors :
    goal.without_dead_stores-requires-clause-of_vectors
without_dead_stores-requires-clause-of_vectors c = c.requires.0

pub without_dead_stores-requires-clause-by_words : goal.without_dead_stores-requires-clause-by_words
without_dead_stores-requires-clause-by_words c = c.requires.1

pub without_dead_stores-requires-clause-solves : goal.without_dead_stores-requires-clause-solves
without_dead_stores-requires-clause-solves c = c.in_ok-flow.ensures.solves

pub returns-clause-shape : goal.returns-clause-shape
returns-clause-shape c = record
    { solution = _; least = c.in_ok-flow.ensures; stored = c.in_ok-h.ensures.shape }
