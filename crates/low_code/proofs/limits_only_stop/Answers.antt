use Rattle.low_code.proofs.Limits.{limits_only_stop}
use Rattle.low_code.proofs.limits_only_stop.Goals as goal

pub returns : goal.returns
returns c = limits_only_stop
