use Rattle.std.proofs.Common.{◌≡◌, ◌≤◌, false, List, [], ◌∷◌, length, refl, arith}
use Rattle.core_types.specs.declared.source.Written as code-written
use Rattle.core_types.specs.SourceOf.{types_in}
use Rattle.core_types.specs.Lists.{is_empty}
use Rattle.core_types.proofs.lists.is_empty.Goals as goal

some_types : (ts : List code-written.Written) → 1 ≤ length ts → false ≡ is_empty (types_in ts)
some_types [] l = absurd (omega (arith, l))
some_types (t ∷ ts) l = refl

pub returns-in_default : goal.returns-in_default
returns-in_default c = some_types c.args.types.now (omega arith)
