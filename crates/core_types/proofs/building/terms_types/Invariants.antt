use Rattle.std.proofs.Common.{take, map}
use Rattle.core_reader.specs.Tree.{term as term_of, terms_of}
use Rattle.core_types.specs.Source.{Source}
use Rattle.core_types.specs.Typing.{Locals, terms_types}
use Rattle.core_types.specs.Nodes.{IsSound}
use Rattle.core_types.specs.Instances.{AddsTermsForTypes}
use Rattle.core_types.specs.Building.{IsContextOf, DenoteLocals}
use Rattle.core_types.proofs.building.terms_types.Given as goal

abbrev pub invariant-loop-atom : goal.invariant-loop-atom
invariant-loop-atom l = (s : Source) (ls : Locals) → IsContextOf l.context s
    → IsSound l.initial.nodes → DenoteLocals l.initial.nodes ls l.scope
    → AddsTermsForTypes l.initial.nodes l.nodes
    (terms_types s ls (terms_of (map term_of (take l.atom-index l.atoms)))) l.terms.items
