use Rattle.std.proofs.lemmas.Result.{IfOk-weaker}
use Rattle.copy_prop.proofs.Contract.{is_kept}
use Rattle.grin_opt.proofs.FewerCopies.{made_lean}
use Rattle.grin_opt.proofs.schedule.copied.Goals as goal

pub returns-clause-shape : goal.returns-clause-shape
returns-clause-shape c = IfOk-weaker c.without_idle.result _ _
    (λ k made. made_lean _ _ _ c.in_ok-h.ensures made c.requires) c.without_idle.ensures

pub returns-clause-meaning : goal.returns-clause-meaning
returns-clause-meaning c = IfOk-weaker c.without_idle.result _ _
    (λ k made. is_kept _ _ _ c.in_ok-h.ensures made c.requires) c.without_idle.ensures
