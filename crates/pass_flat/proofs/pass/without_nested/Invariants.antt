use Rattle.std.proofs.Common.{◌≡◌, map}
use Rattle.grin_syntax.specs.Tree.{procedure_of}
use Rattle.grin_meaning.specs.Rewritten.{rewritten_procedure}
use Rattle.pass_flat.specs.Flat.{flat_code}
use Rattle.pass_flat.proofs.pass.without_nested.Given as goal

abbrev pub invariant-loop-proc : goal.invariant-loop-proc
invariant-loop-proc l = map procedure_of l.procs ≡ map (rewritten_procedure flat_code)
    (map procedure_of l.yielded)
