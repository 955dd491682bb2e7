use Rattle.std.proofs.Common.{◌≡◌, drop, map}
use Rattle.arity_check.specs.Tables.{known}
use Rattle.core_types.specs.SourceOf.{constructor_of}
use Rattle.core_types.specs.Found.{unknown_in_fields}
use Rattle.core_types.specs.Kept.{is_known_variable, type_arity_by}
use Rattle.core_types.proofs.declared.unknown_in_fields.Given as goal

abbrev pub invariant-loop-constructor : goal.invariant-loop-constructor
invariant-loop-constructor l = unknown_in_fields (type_arity_by (known l.globals) l.params)
    (is_known_variable l.variables) l.first
    (map constructor_of (drop l.constructor-index l.constructors)) ≡ unknown_in_fields
    (type_arity_by (known l.globals) l.params) (is_known_variable l.variables) l.initial.first
    (map constructor_of l.constructors)
