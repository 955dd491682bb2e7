use Rattle.std.proofs.Common.{◌≡◌, [], ◌++◌, map}
use Rattle.arity_check.specs.Program.{program}
use Rattle.grin_translate.specs.Blocks.{local}
use Rattle.grin_translate.proofs.procedures.procedure.Given as goal
use Rattle.seq.specs.Lists.{numbers_from}

abbrev pub invariant-loop-x : goal.invariant-loop-x
invariant-loop-x l = l.made ≡ [] ++ map (local (program l.p) l.variables.base) (numbers_from 0 l.x)
