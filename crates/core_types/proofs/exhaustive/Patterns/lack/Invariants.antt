use Rattle.std.proofs.Common.{◌≡◌, drop, map}
use Rattle.core_types.specs.SourceOf.{type_of}
use Rattle.core_types.specs.Found.{type_lacks_pattern}
use Rattle.core_types.specs.Kept.{covered_patterns}
use Rattle.core_types.proofs.exhaustive.Patterns.lack.Given as goal

abbrev pub invariant-loop-declared : goal.invariant-loop-declared
invariant-loop-declared l = type_lacks_pattern (covered_patterns l.self)
    (map type_of (drop l.declared-index l.types)) l.name.0 ≡ type_lacks_pattern
    (covered_patterns l.self) (map type_of l.types) l.name.0
