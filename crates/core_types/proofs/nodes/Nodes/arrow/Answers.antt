use Rattle.std.proofs.Common.{[], ◌∷◌, ◌++◌, ap, ◌∙◌}
use Rattle.core_types.proofs.Follows.{ok_both}
use Rattle.core_types.proofs.Denoting.{arrow_gives}
use Rattle.core_types.proofs.nodes.Nodes.arrow.Goals as goal

pub returns : goal.returns
returns c = ok_both c.made.result c.made.ensures.grows c.made.ensures.made
    (λ at grows made. let from = c.args.from in
    let to = c.args.to in
    arrow_gives _ _ _ from to _
    (c.in_ok-push-2.ensures.ok ∙ ap (λ l. l ++ to ∷ [])
    (c.in_ok-push.ensures.ok ∙ ap (λ l. l ++ from ∷ []) c.new-arguments.ensures))
    grows made)
