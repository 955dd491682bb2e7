use Rattle.std.proofs.Common.{rules}
use Rattle.grin_syntax.specs.Tree.{program_of}
use Rattle.points_to.specs.Found.{found}
use Rattle.arity_raise.proofs.Judged.{node_from}
use Rattle.arity_raise.proofs.cells.ProgramFacts.node_of.Goals as goal

pub returns-else-not-has_only : goal.returns-else-not-has_only
returns-else-not-has_only c =
    node_from (found c.args.self.now.flow.now) (program_of c.args.self.now.g.now) c.args.x.0
    c.in-Some.tag _
    (c.has_cells_alone.ensures.0 (search rules)) (c.is_unchanged.ensures.0 (search rules))
    c.in-Some.ensures (c.has_only.ensures.0 (search rules)) c.value_node.ensures

pub returns-in-None : goal.returns-in-None
returns-in-None c = λ t k f. c.in-None.ensures t f.has
