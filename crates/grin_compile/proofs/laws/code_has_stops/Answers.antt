use Rattle.grin_compile.proofs.Layered.{code_has_stops}
use Rattle.grin_compile.proofs.laws.code_has_stops.Goals as goal

pub returns : goal.returns
returns c = code_has_stops
