use Rattle.arity_check.proofs.Excluded.{one_refusal}
use Rattle.arity_check.proofs.laws.refusal_is_unique.Goals as goal

pub returns : goal.returns
returns c = one_refusal
