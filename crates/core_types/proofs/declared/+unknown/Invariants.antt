use Rattle.std.proofs.Common.{◌≡◌, drop}
use Rattle.arity_check.specs.Tables.{known}
use Rattle.core_types.specs.SourceOf.{types_in}
use Rattle.core_types.specs.Found.{unknown_in_all}
use Rattle.core_types.specs.Kept.{is_known_variable, type_arity_by}
use Rattle.core_types.proofs.declared.+unknown.Given as goal

abbrev pub invariant-unknown_in_all-loop-written : goal.invariant-unknown_in_all-loop-written
invariant-unknown_in_all-loop-written l = unknown_in_all (type_arity_by (known l.globals) l.params)
    (is_known_variable l.variables) l.first (types_in (drop l.written-index l.types)) ≡
    unknown_in_all (type_arity_by (known l.globals) l.params) (is_known_variable l.variables)
    l.initial.first (types_in l.types)
