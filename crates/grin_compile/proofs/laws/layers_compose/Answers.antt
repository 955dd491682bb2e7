use Rattle.grin_compile.proofs.Layered.{layers_compose}
use Rattle.grin_compile.proofs.laws.layers_compose.Goals as goal

pub returns : goal.returns
returns c = layers_compose
