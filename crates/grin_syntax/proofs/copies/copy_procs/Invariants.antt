use Rattle.std.proofs.Common.{◌≡◌, take, map}
use Rattle.grin_syntax.specs.Tree.{procedure_of}
use Rattle.grin_syntax.proofs.copies.copy_procs.Given as goal

abbrev pub invariant-loop-proc : goal.invariant-loop-proc
invariant-loop-proc l = map procedure_of l.made ≡ map procedure_of (take l.proc-index l.procs)
