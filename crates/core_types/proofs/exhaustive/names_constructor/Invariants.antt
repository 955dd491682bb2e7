use Rattle.std.proofs.Common.{◌≡◌, drop, map}
use Rattle.core_types.specs.SourceOf.{constructor_of}
use Rattle.core_types.specs.Rules.{names_constructor}
use Rattle.core_types.proofs.exhaustive.names_constructor.Given as goal

abbrev pub invariant-loop-constructor : goal.invariant-loop-constructor
invariant-loop-constructor l = names_constructor l.name.0
    (map constructor_of (drop l.constructor-index l.constructors)) ≡ names_constructor l.name.0
    (map constructor_of l.constructors)
