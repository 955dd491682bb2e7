use Rattle.pass_flat.proofs.Contract.{is_flattened, is_kept}
use Rattle.pass_flat.proofs.pass.FlattenPass.apply.Goals as goal

pub returns-clause-shape : goal.returns-clause-shape
returns-clause-shape c = is_flattened _ _ c.in_ok-h.ensures c.requires

pub returns-clause-meaning : goal.returns-clause-meaning
returns-clause-meaning c = is_kept _ _ c.in_ok-h.ensures c.requires
