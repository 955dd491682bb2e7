use Rattle.arity_raise.proofs.Contract.{is_raised, is_kept}
use Rattle.arity_raise.proofs.pass.RaisePass.apply.Goals as goal

pub returns-clause-shape : goal.returns-clause-shape
returns-clause-shape c = is_raised _ _ c.requires.0 c.requires.1 c.in_ok-h.ensures

pub returns-clause-meaning : goal.returns-clause-meaning
returns-clause-meaning c = is_kept _ _ c.requires.0 c.requires.1 c.in_ok-h.ensures
