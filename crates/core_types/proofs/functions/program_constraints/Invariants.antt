use Rattle.std.proofs.Common.{[], take, map}
use Rattle.std.specs.List.{flat_map}
use Rattle.core_reader.specs.Tree.{function as function_tree}
use Rattle.core_types.specs.Source.{Source}
use Rattle.core_types.specs.Typing.{of_function}
use Rattle.core_types.specs.Building.{IsContextOf, HasLocalsInScope, Stands}
use Rattle.core_types.proofs.functions.program_constraints.Given as goal

abbrev pub invariant-loop-function : goal.invariant-loop-function
invariant-loop-function l = (s : Source) → IsContextOf l.context s
    → HasLocalsInScope l.builder [] × Stands l.builder
    (flat_map (of_function s) (map function_tree (take l.function-index l.function-items)))
