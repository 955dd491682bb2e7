use Rattle.grin_compile.proofs.Selected.{selection_carries}
use Rattle.grin_compile.proofs.laws.selection_carries_low_code.Goals as goal

pub returns : goal.returns
returns c = selection_carries
