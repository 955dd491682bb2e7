use Rattle.std.proofs.Common.{◌≡◌, map, None}
use Rattle.grin_syntax.specs.Tree.{procedure_of}
use Rattle.grin_meaning.specs.Rewritten.{rewritten_procedure}
use Rattle.points_to.specs.Found.{found}
use Rattle.pass_narrow.specs.Narrow.{narrow_code}
use Rattle.pass_narrow.proofs.pass.with_read_words.Given as goal

abbrev pub invariant-loop-proc : goal.invariant-loop-proc
invariant-loop-proc l = map procedure_of l.procs ≡ map
    (rewritten_procedure (narrow_code l.tags.count (found l.tags.flow.now) None))
    (map procedure_of l.yielded)
