use Rattle.copy_prop.proofs.Contract.{is_copied, is_kept}
use Rattle.copy_prop.proofs.pass.CopiesPass.apply.Goals as goal

pub returns-clause-shape : goal.returns-clause-shape
returns-clause-shape c = is_copied _ _ _ c.in_ok-h.ensures c.in_ok-k.ensures c.requires

pub returns-clause-meaning : goal.returns-clause-meaning
returns-clause-meaning c = is_kept _ _ _ c.in_ok-h.ensures c.in_ok-k.ensures c.requires
