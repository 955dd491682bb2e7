use Rattle.core_meaning.proofs.Valid.{valid_is_well_formed, different_places}
use Rattle.grin_translate.proofs.Printing.{translation_does_as}
use Rattle.grin_translate.proofs.translation_refines.Goals as goal

pub returns : goal.returns
returns c = λ p valid i n. translation_does_as p
    (valid_is_well_formed valid.program p valid.normal valid.unbroken
    (different_places valid.program.names valid.readable.different)) i n
