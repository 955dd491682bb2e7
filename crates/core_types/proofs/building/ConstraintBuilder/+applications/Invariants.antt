use Rattle.std.proofs.Common.{take, map}
use Rattle.core_reader.specs.Tree.{term as term_of, terms_of}
use Rattle.core_types.specs.Source.{Source}
use Rattle.core_types.specs.Typing.{Locals, within_terms}
use Rattle.core_types.specs.Building.{IsContextOf, HasLocalsInScope, Adds}
use Rattle.core_types.proofs.building.ConstraintBuilder.+applications.Given as goal

abbrev pub invariant-within_terms-loop-atom : goal.invariant-within_terms-loop-atom
invariant-within_terms-loop-atom l = (s : Source) (ls : Locals) → IsContextOf l.context s
    → HasLocalsInScope l.initial.self ls
    → Adds l.initial.self l.self
    (within_terms s ls (terms_of (map term_of (take l.atom-index l.atoms))))
