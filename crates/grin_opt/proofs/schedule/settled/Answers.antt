use Rattle.std.proofs.lemmas.Result.{IfOk-weaker}
use Rattle.grin_meaning.proofs.Kept.{keeps_again}
use Rattle.grin_opt.proofs.Several.{of_known_words}
use Rattle.grin_opt.proofs.schedule.settled.Goals as goal

pub returns-clause-shape : goal.returns-clause-shape
returns-clause-shape c = IfOk-weaker c.tidied.result _ _
    (λ h made. of_known_words _ _ _ c.in_ok-known.ensures.shape made) c.tidied.ensures.shape

pub returns-clause-meaning : goal.returns-clause-meaning
returns-clause-meaning c = IfOk-weaker c.tidied.result _ _
    (λ h kept. keeps_again _ _ _ c.in_ok-known.ensures.meaning kept) c.tidied.ensures.meaning
