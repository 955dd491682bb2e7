use Rattle.std.proofs.Common.{◌≡◌, drop, map}
use Rattle.arity_check.specs.Tables.{known}
use Rattle.core_types.specs.SourceOf.{type_of}
use Rattle.core_types.specs.Found.{unknown_in_types}
use Rattle.core_types.specs.Kept.{type_arity_by}
use Rattle.core_types.proofs.declared.unknown_in_types.Given as goal

abbrev pub invariant-loop-declared : goal.invariant-loop-declared
invariant-loop-declared l = unknown_in_types (type_arity_by (known l.globals) l.params) l.first
    (map type_of (drop l.declared-index l.types)) ≡ unknown_in_types
    (type_arity_by (known l.globals) l.params) l.initial.first (map type_of l.types)
