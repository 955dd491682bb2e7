use Rattle.std.proofs.Common.{◌≡◌, ◌++◌, drop, map}
use Rattle.std.specs.List.{flat_map}
use Rattle.core_reader.specs.Tree.{data_of}
use Rattle.core_print.specs.Canonical.{data_line}
use Rattle.core_print.proofs.printer.Text.constructors.Given as goal

abbrev pub invariant-loop-constructor : goal.invariant-loop-constructor
invariant-loop-constructor l = l.self ++ flat_map (data_line l.names)
    (map data_of (drop l.constructor-index l.constructors)) ≡ l.fn.self
    ++ flat_map (data_line l.names) (map data_of l.constructors)
