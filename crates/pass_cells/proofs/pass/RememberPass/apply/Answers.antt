use Rattle.pass_cells.proofs.Contract.{fetches_anew, is_kept}
use Rattle.pass_cells.proofs.pass.RememberPass.apply.Goals as goal

pub returns-clause-shape : goal.returns-clause-shape
returns-clause-shape c = fetches_anew _ _ c.in_ok-h.ensures c.requires

pub returns-clause-meaning : goal.returns-clause-meaning
returns-clause-meaning c = is_kept _ _ c.in_ok-h.ensures c.requires
