use Rattle.grin_meaning.proofs.Kept.{keeps_again}
use Rattle.grin_opt.proofs.Several.{of_dead_stores}
use Rattle.grin_opt.proofs.schedule.without_unread.Goals as goal

pub without_unread_words-requires-clause-of_vectors
    : goal.without_unread_words-requires-clause-of_vectors
without_unread_words-requires-clause-of_vectors c = c.requires.0

pub without_unread_words-requires-clause-solves : goal.without_unread_words-requires-clause-solves
without_unread_words-requires-clause-solves c = c.in_ok-flow.ensures.solves

pub without_unread_updates-requires-clause-of_vectors
    : goal.without_unread_updates-requires-clause-of_vectors
without_unread_updates-requires-clause-of_vectors c = c.in_ok-narrow.ensures.shape.stays.of_vectors

pub without_unread_updates-requires-clause-solves :
    goal.without_unread_updates-requires-clause-solves
without_unread_updates-requires-clause-solves c = c.in_ok-narrow.ensures.shape.still_solves

pub without_dead_stores-requires-clause-of_vectors :
    goal.without_dead_stores-requires-clause-of_vectors
without_dead_stores-requires-clause-of_vectors c = c.in_ok-read.ensures.shape.stays.of_vectors

pub without_dead_stores-requires-clause-by_words : goal.without_dead_stores-requires-clause-by_words
without_dead_stores-requires-clause-by_words c =
    c.in_ok-read.ensures.shape.stays.by_words
    (c.in_ok-narrow.ensures.shape.stays.by_words c.requires.1)

pub without_dead_stores-requires-clause-solves : goal.without_dead_stores-requires-clause-solves
without_dead_stores-requires-clause-solves c = c.in_ok-read.ensures.shape.still_solves

pub copied-requires : goal.copied-requires
copied-requires c = c.in_ok-stored.ensures.shape.of_vectors

pub returns-clause-shape : goal.returns-clause-shape
returns-clause-shape c =
    of_dead_stores _ _ _ _ _ _ c.in_ok-narrow.ensures.shape c.in_ok-read.ensures.shape
    c.in_ok-stored.ensures.shape
    c.in_ok-flow.ensures c.in_ok-made.ensures.shape

pub returns-clause-meaning : goal.returns-clause-meaning
returns-clause-meaning c =
    keeps_again _ _ _ c.in_ok-narrow.ensures.meaning (keeps_again _ _ _ c.in_ok-read.ensures.meaning
    (keeps_again _ _ _ c.in_ok-stored.ensures.meaning c.in_ok-made.ensures.meaning))
