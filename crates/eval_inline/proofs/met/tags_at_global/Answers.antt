use Rattle.std.proofs.Common.{◌≡◌, None, slice_get, ap, rules}
use Rattle.grin_syntax.specs.Tree.{program_of}
use Rattle.points_to.specs.Found.{found}
use Rattle.inline_theory.specs.Evaluations.{site_of}
use Rattle.eval_inline.proofs.Sites.{of_global, no_cells}
use Rattle.eval_inline.proofs.met.tags_at_global.Goals as goal

pub returns-in-Some : goal.returns-in-Some
returns-in-Some c = of_global (program_of c.args.g.now) (found c.args.flow.now) c.args.global
    c.in-Some.cell.now _ (search rules) c.tags_at.ensures.ascending c.tags_at.ensures.exact

pub returns-in-None : goal.returns-in-None
returns-in-None c =
    let none : slice_get c.args.g.now.globals c.args.global ≡ None = search rules in
    no_cells (program_of c.args.g.now) (found c.args.flow.now) _
    (ap (site_of (program_of c.args.g.now) (found c.args.flow.now)) none)
