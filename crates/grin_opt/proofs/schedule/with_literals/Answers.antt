use Rattle.std.proofs.lemmas.Result.{IfOk-weaker}
use Rattle.grin_meaning.proofs.Kept.{keeps_again}
use Rattle.grin_opt.proofs.Several.{of_both}
use Rattle.grin_opt.proofs.schedule.with_literals.Goals as goal

pub returns-clause-shape : goal.returns-clause-shape
returns-clause-shape c = IfOk-weaker c.settled.result _ _
    (λ h made. of_both _ _ _ c.in_ok-once.ensures.shape made) c.settled.ensures.shape

pub returns-clause-meaning : goal.returns-clause-meaning
returns-clause-meaning c = IfOk-weaker c.settled.result _ _
    (λ h kept. keeps_again _ _ _ c.in_ok-once.ensures.meaning kept) c.settled.ensures.meaning
