use Rattle.core_reader.proofs.OnlyOne.{one_reading}
use Rattle.core_reader.proofs.laws.tokens_are_unique.Goals as goal

pub returns : goal.returns
returns c = one_reading
