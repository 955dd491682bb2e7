use Rattle.std.proofs.Common.{◌≡◌, map, take}
use Rattle.grin_syntax.specs.Tree.{procedure_of}
use Rattle.dead_store.specs.Holding.{set_holds}
use Rattle.dead_store.specs.Without.{left_of}
use Rattle.dead_store.proofs.left.procs_left.Given as goal

abbrev pub invariant-loop-proc : goal.invariant-loop-proc
invariant-loop-proc l = l.left ≡ left_of (set_holds l.sites.keys)
    (map procedure_of (take l.proc-index l.procs))
