use Rattle.core_meaning.proofs.Valid.{valid_is_well_formed, different_places}
use Rattle.core_meaning.proofs.Lookups.{well_formed_finds}
use Rattle.core_meaning.proofs.no_lookup_fails.Goals as goal

pub returns : goal.returns
returns c = λ p valid nowhere lost i n. well_formed_finds p nowhere lost
    (valid_is_well_formed valid.program p valid.normal valid.unbroken
    (different_places valid.program.names valid.readable.different)) i n
