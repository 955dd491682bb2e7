use Rattle.arity_check.proofs.Single.{flat_one}
use Rattle.arity_check.proofs.laws.flat_form_is_unique.Goals as goal

pub returns : goal.returns
returns c p s n head args news news' form form' a b = flat_one p s a b
