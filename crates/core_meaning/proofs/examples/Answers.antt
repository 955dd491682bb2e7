use Rattle.core_meaning.proofs.Computed.{examples as computed}
use Rattle.core_meaning.proofs.examples.Goals as goal

pub returns : goal.returns
returns c = computed
