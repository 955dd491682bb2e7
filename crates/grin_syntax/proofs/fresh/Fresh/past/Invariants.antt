use Rattle.std.proofs.Common.{◌≡◌, take, map}
use Rattle.grin_syntax.specs.Tree.{procedure_of}
use Rattle.grin_syntax.specs.Fresh.{past_procs}
use Rattle.grin_syntax.proofs.fresh.Fresh.past.Given as goal

abbrev pub invariant-loop-proc : goal.invariant-loop-proc
invariant-loop-proc l = l.next ≡ past_procs (map procedure_of (take l.proc-index l.procs))
