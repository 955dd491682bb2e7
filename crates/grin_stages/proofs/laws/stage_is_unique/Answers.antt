use Rattle.grin_stages.proofs.Alike.{staged_once}
use Rattle.grin_stages.proofs.laws.stage_is_unique.Goals as goal

pub returns : goal.returns
returns c = staged_once
