use Rattle.low_code.proofs.MoreUnits.{more_units_extend}
use Rattle.low_code.proofs.more_units_extend.Goals as goal

pub returns : goal.returns
returns c = more_units_extend
