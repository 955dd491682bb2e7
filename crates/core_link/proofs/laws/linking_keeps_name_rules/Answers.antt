use Rattle.core_link.proofs.Still.{still_unbroken}
use Rattle.core_link.proofs.laws.linking_keeps_name_rules.Goals as goal

pub returns : goal.returns
returns c = still_unbroken
