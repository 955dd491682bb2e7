use Rattle.grin_syntax.specs.Tree.{procedure_of, program_of}
use Rattle.points_to.specs.Found.{found}
use Rattle.arity_raise.proofs.Chosen.{raisable_fixed}
use Rattle.arity_raise.proofs.cells.ProgramFacts.raisable.Goals as goal

pub returns-in-None : goal.returns-in-None
returns-in-None c = λ t k r. c.in-None.ensures t k
    (raisable_fixed (found c.args.self.now.flow.now) (program_of c.args.self.now.g.now)
    (procedure_of c.args.proc.now) c.args.x.0 t k r)
