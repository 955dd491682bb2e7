use Rattle.std.proofs.Common.{map, sym}
use Rattle.grin_syntax.specs.Tree.{program_of}
use Rattle.points_to.specs.Found.{found}
use Rattle.arity_raise.proofs.Sites.{joins_var, joins_global}
use Rattle.arity_raise.proofs.updated.put_word.Goals as goal

pub returns-in_ok-put_sites-in-Var : goal.returns-in_ok-put_sites-in-Var
returns-in_ok-put_sites-in-Var c = joins_var (found c.args.flow.now) (program_of c.args.g.now)
    c.args.word c.in-Var.x (map (λ s. s.0) c.locs_of.result.now) _ _ c.in-Var.is
    c.locs_of.ensures.exact c.in_ok-put_sites-in-Var.ensures

pub returns-in_ok-put_site-in-Some : goal.returns-in_ok-put_site-in-Some
returns-in_ok-put_site-in-Some c = joins_global (found c.args.flow.now) (program_of c.args.g.now)
    c.args.word c.in-Global.i c.in-Some.cell.now _ _ c.in-Global.is (sym c.in-Some.ensures.value)
    c.in_ok-put_site-in-Some.ensures
