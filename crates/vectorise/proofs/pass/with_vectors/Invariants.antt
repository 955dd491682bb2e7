use Rattle.std.proofs.Common.{◌≡◌, map}
use Rattle.grin_syntax.specs.Tree.{procedure_of}
use Rattle.grin_meaning.specs.Rewritten.{rewritten_procedure}
use Rattle.vectorise.specs.Vectors.{wide_code}
use Rattle.vectorise.proofs.pass.with_vectors.Given as goal

abbrev pub invariant-loop-proc : goal.invariant-loop-proc
invariant-loop-proc l = map procedure_of l.procs ≡ map
    (rewritten_procedure (wide_code l.vectors.layout l.vectors.known)) (map procedure_of l.yielded)
