use Rattle.std.proofs.Common.{drop, map}
use Rattle.grin_syntax.specs.Tree.{program_of}
use Rattle.grin_compile.proofs.Passed.{ArePassed}
use Rattle.grin_compile.proofs.later.stages_of.Given as goal

abbrev pub invariant-loop-pass : goal.invariant-loop-pass
invariant-loop-pass l = ArePassed l.passes (program_of l.g) (drop l.pass-index l.passes)
    (map program_of l.stages.items)
