use Rattle.unbox.proofs.Contract.{is_unboxed, is_kept}
use Rattle.unbox.proofs.pass.UnboxPass.apply.Goals as goal

pub returns-clause-shape : goal.returns-clause-shape
returns-clause-shape c = is_unboxed _ _ c.requires.0 c.in_ok-h.ensures

pub returns-clause-meaning : goal.returns-clause-meaning
returns-clause-meaning c = is_kept _ _ c.requires.0 c.in_ok-h.ensures
