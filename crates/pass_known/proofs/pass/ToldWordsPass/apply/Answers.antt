use Rattle.pass_known.proofs.Tells.{all_silent}
use Rattle.pass_known.proofs.Contract.{whole, kept}
use Rattle.pass_known.proofs.pass.ToldWordsPass.apply.Goals as goal

pub returns-clause-shape : goal.returns-clause-shape
returns-clause-shape c = rw c.in_ok-h.ensures (whole _ _ c.requires (λ i n. all_silent _ _))

pub returns-clause-meaning : goal.returns-clause-meaning
returns-clause-meaning c = rw c.in_ok-h.ensures (kept _ _ c.requires (λ i n. all_silent _ _))
