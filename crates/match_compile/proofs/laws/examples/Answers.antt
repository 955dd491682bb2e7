use Rattle.match_compile.proofs.Computed.{examples as computed}
use Rattle.match_compile.proofs.laws.examples.Goals as goal

pub returns : goal.returns
returns c = computed
