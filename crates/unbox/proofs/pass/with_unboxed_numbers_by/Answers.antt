use Rattle.unbox.proofs.Contract.{by_least, is_unboxed, is_kept}
use Rattle.unbox.proofs.pass.with_unboxed_numbers_by.Goals as goal

pub returns-clause-shape : goal.returns-clause-shape
returns-clause-shape c = is_unboxed _ _ c.requires.of_vectors
    (by_least c.requires.least c.in_ok-members.ensures c.in_ok-h.ensures)

pub returns-clause-meaning : goal.returns-clause-meaning
returns-clause-meaning c = is_kept _ _ c.requires.of_vectors
    (by_least c.requires.least c.in_ok-members.ensures c.in_ok-h.ensures)
