use Rattle.lambda_lift.proofs.Kept.{trees_keep}
use Rattle.lambda_lift.proofs.laws.lifting_trees_preserves_meaning.Goals as goal

pub returns : goal.returns
returns c = trees_keep
