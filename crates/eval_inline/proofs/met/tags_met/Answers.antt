use Rattle.std.proofs.Common.{ap}
use Rattle.grin_syntax.specs.Tree.{program_of}
use Rattle.points_to.specs.Found.{found}
use Rattle.inline_theory.specs.Evaluations.{sites_of, tags_of}
use Rattle.std.proofs.Common.{◌∙◌}
use Rattle.eval_inline.proofs.Sites.{of_variable, no_cells}
use Rattle.eval_inline.proofs.met.tags_met.Goals as goal

pub returns-in-Var : goal.returns-in-Var
returns-in-Var c = of_variable (program_of c.args.g.now) (found c.args.flow.now) c.args.word.now
    c.in-Var.x _ c.in-Var.is c.tags_met.ensures.ascending c.tags_met.ensures.exact

pub returns-in-Global : goal.returns-in-Global
returns-in-Global c = ap (tags_of (program_of c.args.g.now) (found c.args.flow.now)) c.in-Global.is
    ∙ c.tags_at_global.ensures

pub returns-in-Lit : goal.returns-in-Lit
returns-in-Lit c = no_cells (program_of c.args.g.now) (found c.args.flow.now) _
    (ap (sites_of (program_of c.args.g.now) (found c.args.flow.now)) c.in-Lit.is)

pub returns-in-TagWord : goal.returns-in-TagWord
returns-in-TagWord c = no_cells (program_of c.args.g.now) (found c.args.flow.now) _
    (ap (sites_of (program_of c.args.g.now) (found c.args.flow.now)) c.in-TagWord.is)
