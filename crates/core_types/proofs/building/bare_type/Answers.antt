use Rattle.std.proofs.Common.{sym, ap, ◌∙◌}
use Rattle.core_reader.specs.Tree.{term as term_of}
use Rattle.core_reader.proofs.TreeOf.{term_of-Name, term_of-Con, term_of-Int, term_of-Bracket}
use Rattle.core_types.proofs.Follows.{ok_then}
use Rattle.core_types.specs.Typing.{Int, Open, AtBracket, term_type, name_type, constructor_type}
use Rattle.core_types.proofs.Heads.{bare_type, bracket_type}
use Rattle.core_types.proofs.Instancing.{gives_as}
use Rattle.core_types.proofs.building.bare_type.Goals as goal

pub returns-in-Name : goal.returns-in-Name
returns-in-Name c = ok_then c.name_type.result c.name_type.ensures (λ term given.
    λ s ls t e k h d.
    gives_as c.args.nodes.now c.name_type.new.nodes (name_type s ls c.in-Name.name.0 c.in-Name.at)
    (term_type s ls t) term
    (bare_type s ls t ∙ ap (term_type s ls)
    (sym e ∙ ap term_of c.in-Name.is ∙ term_of-Name c.in-Name.name c.in-Name.at))
    (given s ls k h d))

pub returns-in-Con : goal.returns-in-Con
returns-in-Con c = ok_then c.constructor_type.result c.constructor_type.ensures (λ term given.
    λ s ls t e k h d.
    gives_as c.args.nodes.now c.constructor_type.new.nodes
    (constructor_type s c.in-Con.name.0 c.in-Con.at) (term_type s ls t) term
    (bare_type s ls t ∙ ap (term_type s ls)
    (sym e ∙ ap term_of c.in-Con.is ∙ term_of-Con c.in-Con.name c.in-Con.at))
    (given s k h))

pub returns-in-Int : goal.returns-in-Int
returns-in-Int c = ok_then c.integer.result c.integer.ensures (λ term given.
    λ s ls t e k h d.
    gives_as c.args.nodes.now c.integer.new.self Int (term_type s ls t) term
    (bare_type s ls t ∙ ap (term_type s ls) (sym e ∙ ap term_of c.in-Int.is ∙ term_of-Int _ _))
    (given h))

pub returns-in-Bracket : goal.returns-in-Bracket
returns-in-Bracket c = ok_then c.variable.result c.variable.ensures (λ term given.
    λ s ls t e k h d.
    gives_as c.args.nodes.now c.variable.new.self (Open (AtBracket c.in-Bracket.at))
    (term_type s ls t) term
    (bracket_type s ls t _ _ c.in-Bracket.at
    (sym (ap term_of c.in-Bracket.is ∙ term_of-Bracket _ c.in-Bracket.at) ∙ e))
    (given h))
