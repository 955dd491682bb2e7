use Rattle.std.proofs.Common.{List, take}
use Rattle.core_types.specs.Source.{Source}
use Rattle.core_types.specs.Typing.{Typed, Locals, binds_all}
use Rattle.core_types.specs.Nodes.{DenoteEach}
use Rattle.core_types.specs.Building.{IsContextOf, HasLocalsInScope, EntersLocals}
use Rattle.core_types.proofs.building.ConstraintBuilder.bind_all.Given as goal

abbrev pub invariant-loop-i : goal.invariant-loop-i
invariant-loop-i l = (s : Source) (ls : Locals) (ts : List Typed) → IsContextOf l.context s
    → HasLocalsInScope l.initial.self ls → DenoteEach l.initial.self.nodes ts l.terms
    → EntersLocals l.initial.self l.self (binds_all s (take l.i l.binders) ts ls)
