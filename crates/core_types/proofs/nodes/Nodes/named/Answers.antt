use Rattle.core_types.proofs.Follows.{ok_both}
use Rattle.core_types.proofs.Denoting.{named_gives}
use Rattle.core_types.proofs.nodes.Nodes.named.Goals as goal

pub returns : goal.returns
returns c = ok_both c.made.result c.made.ensures.grows c.made.ensures.made
    (λ at grows made. named_gives _ _ _ c.args.name c.args.arguments grows
    made)
