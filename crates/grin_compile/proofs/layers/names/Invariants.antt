use Rattle.std.proofs.Common.{◌≡◌, map, take}
use Rattle.grin_syntax.specs.Tree.{procedure_of}
use Rattle.grin_syntax.specs.SameOutside.{names_of}
use Rattle.grin_compile.proofs.layers.names.Given as goal

abbrev pub invariant-loop-proc : goal.invariant-loop-proc
invariant-loop-proc l = l.names.items ≡ names_of (map procedure_of (take l.proc-index l.procs))
