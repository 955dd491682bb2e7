-- What a pass knows: a program, and the solution of its flow system.
use Rattle.grin_syntax.specs.Tree.{Program, program_of}
use Rattle.flow_system.specs.Solution.{Solution}
use Rattle.points_to.specs.Found.{found}
use Rattle.eval_inline.specs.declared.blocks.EvalInliner.{EvalInliner}

abbrev pub program : EvalInliner → Program
program k = program_of k.program.now

abbrev pub solution : EvalInliner → Solution
solution k = found k.flow.now
