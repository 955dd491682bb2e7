use Rattle.grin_syntax.specs.Tree.{program_of}
use Rattle.points_to.specs.Found.{found}
use Rattle.apply_inline.proofs.Candidate.{of_node}
use Rattle.apply_inline.proofs.known.Known.candidates.Goals as goal

pub returns-in-Node : goal.returns-in-Node
returns-in-Node c = of_node (program_of c.args.self.now.program.now)
    (found c.args.self.now.flow.now) c.args.v.now c.in-Node.t c.in-Node.field-1 _ c.in-Node.is
    c.from_ref.ensures.value
