use Rattle.natural_semantics.proofs.CoreSays.{same}
use Rattle.natural_semantics.proofs.relation_is_that_of_its_moves.Goals as goal

pub returns : goal.returns
returns c = same
