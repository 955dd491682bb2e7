use Rattle.std.proofs.Common.{◌≡◌, map, take}
use Rattle.grin_syntax.specs.Tree.{procedure_of}
use Rattle.pass_ground.specs.Updated.{updated_of}
use Rattle.arity_raise.proofs.updated.updated_words.Given as goal

abbrev pub invariant-loop-proc : goal.invariant-loop-proc
invariant-loop-proc l = l.words ≡ updated_of (map procedure_of (take l.proc-index l.procs))
