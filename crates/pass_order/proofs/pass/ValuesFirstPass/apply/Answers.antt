use Rattle.seq.proofs.Results.{ok_follows}
use Rattle.pass_order.proofs.Contract.{is_ordered, is_kept}
use Rattle.pass_order.proofs.pass.ValuesFirstPass.apply.Goals as goal

pub returns-clause-shape : goal.returns-clause-shape
returns-clause-shape c = ok_follows _ _ _ (λ h e. is_ordered _ _ e c.requires)
    c.with_values_first.ensures

pub returns-clause-meaning : goal.returns-clause-meaning
returns-clause-meaning c = ok_follows _ _ _ (λ h e. is_kept _ _ e c.requires)
    c.with_values_first.ensures
