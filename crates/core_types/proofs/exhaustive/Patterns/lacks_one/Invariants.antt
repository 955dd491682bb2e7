use Rattle.std.proofs.Common.{◌≡◌, drop, map}
use Rattle.std.specs.List.{list_any}
use Rattle.core_types.specs.SourceOf.{constructor_of}
use Rattle.core_types.specs.Found.{is_missing}
use Rattle.core_types.specs.Kept.{covered_patterns}
use Rattle.core_types.proofs.exhaustive.Patterns.lacks_one.Given as goal

abbrev pub invariant-loop-constructor : goal.invariant-loop-constructor
invariant-loop-constructor l = list_any (is_missing (covered_patterns l.self))
    (map constructor_of (drop l.constructor-index l.constructors)) ≡ list_any
    (is_missing (covered_patterns l.self)) (map constructor_of l.constructors)
