use Rattle.core_reader.proofs.OnlyOne.{one_refusal}
use Rattle.core_reader.proofs.laws.refusal_is_unique.Goals as goal

pub returns : goal.returns
returns c = one_refusal
