use Rattle.case_simplify.proofs.Contract.{is_simplified, is_kept}
use Rattle.case_simplify.proofs.pass.SimplifyPass.apply.Goals as goal

pub returns-clause-shape : goal.returns-clause-shape
returns-clause-shape c = is_simplified _ _ c.in_ok-h.ensures c.requires

pub returns-clause-meaning : goal.returns-clause-meaning
returns-clause-meaning c = is_kept _ _ c.in_ok-h.ensures c.requires
