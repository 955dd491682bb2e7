use Rattle.std.proofs.Common.{◌≡◌, take, map, replicate}
use Rattle.grin_syntax.specs.Tree.{procedure_of}
use Rattle.vectorise.specs.declared.known.Known.TheVariants.{Plain}
use Rattle.vectorise.specs.Known.{noted_procs}
use Rattle.vectorise.proofs.known.table.Given as goal

abbrev pub invariant-loop-proc : goal.invariant-loop-proc
invariant-loop-proc l = l.known ≡ noted_procs l.layout
    (map procedure_of (take l.proc-index l.proc-items)) (replicate l.layout.base Plain)
