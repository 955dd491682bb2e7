use Rattle.std.proofs.Common.{◌≡◌, ◌++◌, map, drop}
use Rattle.core_reader.specs.Tree.{data_of as core_data}
use Rattle.core_types.specs.Source.{data_of}
use Rattle.core_types.specs.SourceOf.{constructor_of}
use Rattle.core_types.proofs.source.constructors_of.Given as goal

abbrev pub invariant-loop-constructor : goal.invariant-loop-constructor
invariant-loop-constructor l = map core_data l.erased.items
    ++ map data_of (map constructor_of (drop l.constructor-index l.constructor-items)) ≡ map
    core_data l.fn.erased.items ++ map data_of (map constructor_of l.constructor-items)
