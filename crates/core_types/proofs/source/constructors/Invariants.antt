use Rattle.std.proofs.Common.{◌≡◌, ◌++◌, map, drop}
use Rattle.std.specs.List.{flat_map}
use Rattle.core_reader.specs.Tree.{data_of as core_data}
use Rattle.core_types.specs.Source.{data_in}
use Rattle.core_types.specs.SourceOf.{type_of}
use Rattle.core_types.proofs.source.constructors.Given as goal

abbrev pub invariant-loop-declared : goal.invariant-loop-declared
invariant-loop-declared l = map core_data l.erased.items
    ++ flat_map data_in (map type_of (drop l.declared-index l.types)) ≡ flat_map data_in
    (map type_of l.types)
