use Rattle.match_compile.proofs.Special.{specialises}
use Rattle.match_compile.proofs.laws.known_value_specialises.Goals as goal

pub returns : goal.returns
returns c = specialises
