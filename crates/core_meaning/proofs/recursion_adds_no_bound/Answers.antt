use Rattle.core_meaning.proofs.Enough.{recursion_is_free as shown}
use Rattle.core_meaning.proofs.recursion_adds_no_bound.Goals as goal

pub returns : goal.returns
returns c = shown
