use Rattle.arity_check.specs.Program.{program}
use Rattle.grin_syntax.specs.Tree.{program_of}
use Rattle.test_stages.proofs.Stage.{of_vectors}
use Rattle.test_stages.proofs.composed.composed.Goals as goal

pub compose-requires-clause-first : goal.compose-requires-clause-first
compose-requires-clause-first c = of_vectors (program c.args.p.now) (program_of c.in_ok-g.g)
    c.in_ok-g.ensures.made

pub compose-requires-clause-second : goal.compose-requires-clause-second
compose-requires-clause-second c = λ k gives. gives.stays.of_vectors
