use Rattle.low_code.proofs.Worked.{worked}
use Rattle.low_code.proofs.examples.Goals as goal

pub returns : goal.returns
returns c = worked
