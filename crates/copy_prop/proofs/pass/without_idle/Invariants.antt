use Rattle.std.proofs.Common.{◌≡◌, map}
use Rattle.grin_syntax.specs.Tree.{procedure_of}
use Rattle.grin_meaning.specs.Rewritten.{rewritten_procedure}
use Rattle.copy_prop.specs.Lean.{without_idle_code}
use Rattle.copy_prop.proofs.pass.without_idle.Given as goal

abbrev pub invariant-loop-proc : goal.invariant-loop-proc
invariant-loop-proc l = map procedure_of l.procs ≡ map (rewritten_procedure without_idle_code)
    (map procedure_of l.yielded)
