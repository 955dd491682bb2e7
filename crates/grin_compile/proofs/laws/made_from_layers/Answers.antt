use Rattle.grin_compile.proofs.FromLayers.{made_from_layers}
use Rattle.grin_compile.proofs.laws.made_from_layers.Goals as goal

pub returns : goal.returns
returns c = made_from_layers c.translation_refines.ensures
