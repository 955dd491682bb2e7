use Rattle.grin_meaning.proofs.Kept.{keeps_again}
use Rattle.grin_opt.proofs.Several.{of_own_cells}
use Rattle.grin_opt.proofs.schedule.without_own_fetches.Goals as goal

pub returns-clause-shape : goal.returns-clause-shape
returns-clause-shape c = of_own_cells _ _ _ _ c.in_ok-remembered.ensures.shape
    c.in_ok-tidy.ensures.shape c.in_ok-made.ensures.shape

pub returns-clause-meaning : goal.returns-clause-meaning
returns-clause-meaning c = keeps_again _ _ _
    (keeps_again _ _ _ c.in_ok-remembered.ensures.meaning c.in_ok-tidy.ensures.meaning)
    c.in_ok-made.ensures.meaning
