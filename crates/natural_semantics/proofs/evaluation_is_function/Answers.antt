use Rattle.natural_semantics.proofs.CoreSays.{one_value, never_both}
use Rattle.natural_semantics.proofs.evaluation_is_function.Goals as goal

pub returns : goal.returns
returns c = record { one_value = one_value; never_both = never_both }
