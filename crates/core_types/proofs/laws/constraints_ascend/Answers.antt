use Rattle.core_types.proofs.Ascending.{constraints_ascend}
use Rattle.core_types.proofs.laws.constraints_ascend.Goals as goal

pub returns : goal.returns
returns c = constraints_ascend
