use Rattle.std.proofs.Common.{◌≡◌, drop, map, max}
use Rattle.grin_syntax.specs.Tree.{procedure_of}
use Rattle.low_translate.specs.Writes.{procs_write}
use Rattle.low_translate.proofs.writes.most_written.Given as goal

abbrev pub invariant-loop-proc : goal.invariant-loop-proc
invariant-loop-proc l = max l.most
    (procs_write l.tags (map procedure_of (drop l.proc-index l.procs))) ≡ procs_write l.tags
    (map procedure_of l.procs)
