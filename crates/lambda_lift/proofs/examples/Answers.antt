use Rattle.lambda_lift.proofs.Computed.{examples as computed}
use Rattle.lambda_lift.proofs.examples.Goals as goal

pub returns : goal.returns
returns c = computed
