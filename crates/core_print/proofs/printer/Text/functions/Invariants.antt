use Rattle.std.proofs.Common.{◌≡◌, ◌++◌, drop, map}
use Rattle.std.specs.List.{flat_map}
use Rattle.core_reader.specs.Tree.{function}
use Rattle.core_print.specs.Canonical.{function_line}
use Rattle.core_print.proofs.printer.Text.functions.Given as goal

abbrev pub invariant-loop-function : goal.invariant-loop-function
invariant-loop-function l = l.self ++ flat_map (function_line l.names)
    (map function (drop l.function-index l.functions)) ≡ l.fn.self
    ++ flat_map (function_line l.names) (map function l.functions)
