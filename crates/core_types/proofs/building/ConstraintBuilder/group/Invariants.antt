use Rattle.std.proofs.Common.{take, map}
use Rattle.core_reader.specs.Tree.{bind}
use Rattle.core_types.specs.Source.{Source}
use Rattle.core_types.specs.Typing.{Locals, of_group}
use Rattle.core_types.specs.Building.{IsContextOf, HasLocalsInScope, Adds}
use Rattle.core_types.proofs.building.ConstraintBuilder.group.Given as goal

abbrev pub invariant-loop-member : goal.invariant-loop-member
invariant-loop-member l = (s : Source) (ls : Locals) → IsContextOf l.context s
    → HasLocalsInScope l.initial.self ls
    → Adds l.initial.self l.self (of_group s ls (map bind (take l.member-index l.group)))
