use Rattle.std.proofs.lemmas.Result.{IfOk-weaker}
use Rattle.case_simplify.proofs.Contract.{is_kept}
use Rattle.grin_opt.proofs.FewerCases.{made_simple}
use Rattle.grin_opt.proofs.schedule.simplified.Goals as goal

pub returns-clause-shape : goal.returns-clause-shape
returns-clause-shape c = IfOk-weaker c.with_fewer_cases.result _ _
    (λ h made. made_simple _ _ made c.requires) c.with_fewer_cases.ensures

pub returns-clause-meaning : goal.returns-clause-meaning
returns-clause-meaning c = IfOk-weaker c.with_fewer_cases.result _ _
    (λ h made. is_kept _ _ made c.requires) c.with_fewer_cases.ensures
