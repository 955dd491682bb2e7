use Rattle.natural_semantics.proofs.CoreSays.{one_output}
use Rattle.natural_semantics.proofs.printing_is_function.Goals as goal

pub returns : goal.returns
returns c = one_output
