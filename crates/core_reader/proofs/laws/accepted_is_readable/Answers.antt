use Rattle.core_reader.proofs.Unbroken.{unbroken_is_readable}
use Rattle.core_reader.proofs.laws.accepted_is_readable.Goals as goal

pub returns : goal.returns
returns c = unbroken_is_readable
