use Rattle.std.proofs.Common.{refl}
use Rattle.unification.specs.declared.term.Symbol.TheVariants as symbol
use Rattle.core_types.proofs.Follows.{ok_both}
use Rattle.core_types.specs.Typing.{Int}
use Rattle.core_types.proofs.Denoting.{leaf_gives}
use Rattle.core_types.proofs.nodes.Nodes.integer.Goals as goal

pub returns : goal.returns
returns c = ok_both c.made.result c.made.ensures.grows c.made.ensures.made
    (λ at grows made. leaf_gives _ _ Int _ symbol.Integer _ c.new.ensures grows
    made (λ e. e) refl)
