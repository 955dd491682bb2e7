use Rattle.std.proofs.Common.{take, map}
use Rattle.core_reader.specs.Tree.{data_of, program}
use Rattle.arity_check.specs.Normal.{Pairwise, IsConstructor}
use Rattle.arity_check.proofs.check.constructors.Given as goal

abbrev pub invariant-loop-con : goal.invariant-loop-con
invariant-loop-con l = Pairwise (IsConstructor (program l.core))
    (map data_of (take l.con-index l.con-items)) l.cons
