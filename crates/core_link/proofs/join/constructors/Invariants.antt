use Rattle.std.proofs.Common.{◌≡◌, map}
use Rattle.core_reader.specs.Tree.{data_of}
use Rattle.core_link.specs.Renaming.{numbers_of, renamed_data}
use Rattle.core_link.proofs.join.constructors.Given as goal

abbrev pub invariant-loop-constructor : goal.invariant-loop-constructor
invariant-loop-constructor l = map data_of l.made ≡ map (renamed_data (numbers_of l.renaming))
    (map data_of l.yielded)
