use Rattle.grin_compile.proofs.Paced.{layers_bound_steps}
use Rattle.grin_compile.proofs.laws.layers_bound_steps.Goals as goal

pub returns : goal.returns
returns c = layers_bound_steps
