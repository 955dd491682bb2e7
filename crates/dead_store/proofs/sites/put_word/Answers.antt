use Rattle.std.proofs.Common.{map}
use Rattle.points_to.specs.Found.{found}
use Rattle.dead_store.proofs.SiteSets.{joins_var, joins_number, joins_global, joins_tag}
use Rattle.dead_store.proofs.sites.put_word.Goals as goal

pub returns-in_ok-put_sites-in-Var : goal.returns-in_ok-put_sites-in-Var
returns-in_ok-put_sites-in-Var c = joins_var (found c.args.flow.now) c.args.word c.in-Var.x
    (map (λ s. s.0) c.locs_of.result.now) _ _ c.in-Var.is c.locs_of.ensures.exact
    c.in_ok-put_sites-in-Var.ensures

pub returns-in-Lit : goal.returns-in-Lit
returns-in-Lit c = joins_number (found c.args.flow.now) c.args.word c.in-Lit.field-0
    c.args.sites.now.keys c.in-Lit.is

pub returns-in-Global : goal.returns-in-Global
returns-in-Global c = joins_global (found c.args.flow.now) c.args.word c.in-Global.field-0
    c.args.sites.now.keys c.in-Global.is

pub returns-in-TagWord : goal.returns-in-TagWord
returns-in-TagWord c = joins_tag (found c.args.flow.now) c.args.word c.in-TagWord.field-0
    c.args.sites.now.keys c.in-TagWord.is
