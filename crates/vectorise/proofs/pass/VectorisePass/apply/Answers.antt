use Rattle.vectorise.proofs.Contract.{is_widened, is_kept}
use Rattle.vectorise.proofs.pass.VectorisePass.apply.Goals as goal

pub returns-clause-shape : goal.returns-clause-shape
returns-clause-shape c = is_widened _ _ c.in_ok-h.ensures c.requires

pub returns-clause-meaning : goal.returns-clause-meaning
returns-clause-meaning c = is_kept _ _ c.in_ok-h.ensures c.requires
