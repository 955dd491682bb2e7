use Rattle.core_types.specs.Typing.{integers}
use Rattle.type_meaning.specs.SourceTypes.{ConstructorHasType, FunctionHasType}
use Rattle.type_meaning.proofs.Printed.{well_typed_goes}
use Rattle.type_meaning.proofs.Whole.{well_typed}
use Rattle.type_meaning.proofs.typed_are_never_stuck.Goals as goal

pub returns : goal.returns
returns c = λ s p σ readable unbroken solved nf i n. well_typed_goes (ConstructorHasType s)
    (FunctionHasType s σ) p (integers s) (well_typed s p σ readable unbroken solved nf) i n
