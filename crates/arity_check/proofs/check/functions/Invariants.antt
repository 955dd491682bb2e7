use Rattle.std.proofs.Common.{take, map}
use Rattle.core_reader.specs.Tree.{function, program}
use Rattle.arity_check.specs.Program as normal
use Rattle.arity_check.specs.Normal.{Pairwise, IsFunction}
use Rattle.arity_check.proofs.check.functions.Given as goal

abbrev pub invariant-loop-function : goal.invariant-loop-function
invariant-loop-function l = Pairwise (IsFunction (program l.core))
    (map function (take l.function-index l.function-items)) (map normal.function l.funs)
