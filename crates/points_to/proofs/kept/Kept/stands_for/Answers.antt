use Rattle.std.proofs.Common.{sym}
use Rattle.flow_system.specs.Shown.{tables_of}
use Rattle.points_to.specs.Known.{held}
use Rattle.points_to.proofs.StoredSound.{literal_stands, variable_stands, global_stands, tag_stands}
use Rattle.points_to.proofs.kept.Kept.stands_for.Goals as goal

pub returns-in-Lit : goal.returns-in-Lit
returns-in-Lit c = λ t. literal_stands (tables_of c.args.system.now) (held c.args.self.now.facts)
    c.args.w c.args.word c.in-Lit.field-0 c.in-Lit.is (c.is_same.ensures t)

pub returns-in-Var : goal.returns-in-Var
returns-in-Var c = λ t. variable_stands (tables_of c.args.system.now) (held c.args.self.now.facts)
    c.args.w c.args.word c.in-Var.x c.in-Var.is (c.has.ensures.0 t)

pub returns-in-Some : goal.returns-in-Some
returns-in-Some c = λ t. global_stands (tables_of c.args.system.now) (held c.args.self.now.facts)
    c.args.w c.args.word c.in-Global.i c.in-Some.global.now c.in-Global.is
    (sym c.in-Some.ensures.value) (c.is_same-in-Some.ensures t)

pub returns-in-TagWord : goal.returns-in-TagWord
returns-in-TagWord c = λ t. tag_stands (tables_of c.args.system.now) (held c.args.self.now.facts)
    c.args.w c.args.word c.in-TagWord.t c.in-TagWord.is (c.is_same-in-TagWord.ensures t)
