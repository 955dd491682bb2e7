use Rattle.std.proofs.Common.{◌≡◌, map, take}
use Rattle.grin_syntax.specs.Tree.{procedure_of}
use Rattle.dead_store.specs.Reads.{reads_of}
use Rattle.dead_store.proofs.reads.words_read.Given as goal

abbrev pub invariant-loop-proc : goal.invariant-loop-proc
invariant-loop-proc l = l.words ≡ reads_of l.updates_count
    (map procedure_of (take l.proc-index l.procs))
