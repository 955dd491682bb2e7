use Rattle.std.proofs.Common.{◌≡◌, map}
use Rattle.grin_syntax.specs.Tree.{procedure_of}
use Rattle.grin_meaning.specs.Rewritten.{rewritten_procedure}
use Rattle.pass_cells.specs.Remembered.{remembered_body}
use Rattle.pass_cells.proofs.pass.with_remembered_words.Given as goal

abbrev pub invariant-loop-proc : goal.invariant-loop-proc
invariant-loop-proc l = map procedure_of l.procs ≡ map (rewritten_procedure remembered_body)
    (map procedure_of l.yielded)
