use Rattle.std.proofs.Common.{◌≡◌, take}
use Rattle.arity_check.specs.Tables.{known}
use Rattle.arity_check.specs.Whole.{known_of}
use Rattle.core_types.specs.Source.{Source, erased}
use Rattle.core_types.specs.SourceOf.{types_in}
use Rattle.core_types.specs.Typing.{read_list}
use Rattle.core_types.specs.Nodes.{IsSound}
use Rattle.core_types.specs.Instances.{variable_of, AddsTermsForTypes}
use Rattle.core_types.proofs.instances.+read.Given as goal

abbrev pub invariant-read_all-loop-written : goal.invariant-read_all-loop-written
invariant-read_all-loop-written l = (s : Source) → known l.globals ≡ known_of (erased s)
    → IsSound l.initial.nodes
    → AddsTermsForTypes l.initial.nodes l.nodes
    (read_list s (variable_of l.instance) (types_in (take l.written-index l.types)))
    l.terms.items
