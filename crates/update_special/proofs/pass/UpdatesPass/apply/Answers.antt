use Rattle.update_special.proofs.Contract.{whole, kept}
use Rattle.update_special.proofs.pass.UpdatesPass.apply.Goals as goal

pub returns-clause-shape : goal.returns-clause-shape
returns-clause-shape c = rw c.in_ok-h.ensures.made (whole _ _ c.requires c.in_ok-h.ensures.least)

pub returns-clause-meaning : goal.returns-clause-meaning
returns-clause-meaning c = rw c.in_ok-h.ensures.made (kept _ _ c.requires c.in_ok-h.ensures.least)
