use Rattle.grin_stages.proofs.Alike.{expanded_once}
use Rattle.grin_stages.proofs.laws.expanded_size_is_unique.Goals as goal

pub returns : goal.returns
returns c = expanded_once
