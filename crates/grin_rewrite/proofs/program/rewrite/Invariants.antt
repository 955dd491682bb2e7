use Rattle.std.proofs.Common.{◌≡◌, map}
use Rattle.grin_syntax.specs.Tree.{procedure_of}
use Rattle.grin_meaning.specs.Rewritten.{rewritten_procedure}
use Rattle.grin_rewrite.specs.Rewriting.{rewrite_code}
use Rattle.grin_rewrite.proofs.program.rewrite.Given as goal

abbrev pub invariant-loop-proc : goal.invariant-loop-proc
invariant-loop-proc g l = map procedure_of l.procs ≡ map
    (rewritten_procedure (rewrite_code (g.R.Rule.becomes l.rule))) (map procedure_of l.yielded)
