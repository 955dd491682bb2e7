use Rattle.type_meaning.proofs.Whole.{well_typed}
use Rattle.type_meaning.proofs.solved_are_well_typed.Goals as goal

pub returns : goal.returns
returns c = λ s p σ readable unbroken solved nf. well_typed s p σ readable unbroken solved nf
