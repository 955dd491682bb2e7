use Rattle.std.proofs.Common.{take, map}
use Rattle.core_reader.specs.Tree.{alternative, alts_of}
use Rattle.core_types.specs.Source.{Source}
use Rattle.core_types.specs.Typing.{Typed, Locals, of_alts}
use Rattle.core_types.specs.Nodes.{Denotes}
use Rattle.core_types.specs.Building.{IsContextOf, HasLocalsInScope, Adds}
use Rattle.core_types.proofs.building.ConstraintBuilder.+expressions.Given as goal

abbrev pub invariant-alternatives-loop-alt : goal.invariant-alternatives-loop-alt
invariant-alternatives-loop-alt l = (s : Source) (ls : Locals) (u t : Typed)
    → IsContextOf l.context s → HasLocalsInScope l.initial.self ls
    → Denotes l.initial.self.nodes u l.scrutinee → Denotes l.initial.self.nodes t l.expected
    → Adds l.initial.self l.self
    (of_alts s ls u t (alts_of (map alternative (take l.alt-index l.alts))))
