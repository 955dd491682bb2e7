use Rattle.core_meaning.proofs.Valid.{valid_is_well_formed, different_places}
use Rattle.core_meaning.proofs.valid_programs_are_well_formed.Goals as goal

pub returns : goal.returns
returns c = λ p valid. valid_is_well_formed valid.program p valid.normal valid.unbroken
    (different_places valid.program.names valid.readable.different)
