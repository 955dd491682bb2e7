use Rattle.grin_compile.proofs.Paced.{layers_keep_pace}
use Rattle.grin_compile.proofs.laws.layers_keep_pace.Goals as goal

pub returns : goal.returns
returns c = layers_keep_pace
