use Rattle.low_code.proofs.MoreUnits.{one_entry_a_unit}
use Rattle.low_code.proofs.one_entry_a_unit.Goals as goal

pub returns : goal.returns
returns c = one_entry_a_unit
