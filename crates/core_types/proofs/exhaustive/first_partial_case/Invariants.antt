use Rattle.std.proofs.Common.{◌≡◌, drop, map}
use Rattle.std.specs.Prelude.{None}
use Rattle.core_reader.specs.Tree.{function}
use Rattle.core_types.specs.SourceOf.{type_of}
use Rattle.core_types.specs.Found.{partial_in_functions}
use Rattle.core_types.proofs.exhaustive.first_partial_case.Given as goal

abbrev pub invariant-loop-function : goal.invariant-loop-function
invariant-loop-function l = partial_in_functions (map type_of l.types) l.first
    (map function (drop l.function-index l.functions)) ≡ partial_in_functions (map type_of l.types)
    None (map function l.functions)
