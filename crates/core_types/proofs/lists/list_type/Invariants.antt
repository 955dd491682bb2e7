use Rattle.std.proofs.Common.{◌≡◌, drop, map}
use Rattle.std.specs.List.{find}
use Rattle.arity_check.specs.Tables.{known}
use Rattle.core_types.specs.SourceOf.{type_of}
use Rattle.core_types.specs.Lists.{is_list_by}
use Rattle.core_types.specs.Found.{is_nil_name, is_cons_name, name_of}
use Rattle.core_types.proofs.lists.list_type.Given as goal

abbrev pub invariant-loop-declared : goal.invariant-loop-declared
invariant-loop-declared l = name_of
    (find (is_list_by (is_nil_name (known l.globals)) (is_cons_name (known l.globals)))
    (map type_of (drop l.declared-index l.types))) ≡ name_of
    (find (is_list_by (is_nil_name (known l.globals)) (is_cons_name (known l.globals)))
    (map type_of l.types))
