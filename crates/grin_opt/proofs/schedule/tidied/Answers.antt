use Rattle.std.proofs.lemmas.Result.{IfOk-weaker}
use Rattle.grin_meaning.proofs.Kept.{keeps_again}
use Rattle.grin_opt.proofs.Several.{of_simple}
use Rattle.grin_opt.proofs.schedule.tidied.Goals as goal

pub returns-clause-shape : goal.returns-clause-shape
returns-clause-shape c = IfOk-weaker c.copied.result _ _
    (λ h made. of_simple _ _ _ _ c.in_ok-simple.ensures.shape c.in_ok-flat.ensures.shape made)
    c.copied.ensures.shape

pub returns-clause-meaning : goal.returns-clause-meaning
returns-clause-meaning c = IfOk-weaker c.copied.result _ _
    (λ h kept. keeps_again _ _ _ c.in_ok-simple.ensures.meaning
    (keeps_again _ _ _ c.in_ok-flat.ensures.meaning kept)) c.copied.ensures.meaning
