use Rattle.std.proofs.Common.{[], ◌∷◌, ◌++◌, refl, ap, ◌∙◌}
use Rattle.core_types.specs.Typing.{Int, Named, AndTyped, NoTypeds, integers}
use Rattle.core_types.proofs.Instancing.{gives_as, gives_then}
use Rattle.core_types.proofs.building.integers.Goals as goal

pub returns : goal.returns
returns c = λ s k h.
    let n = c.args.nodes.now in
    let n' = c.integer.new.self in
    let i = c.in_ok-item.ensures h in
    let x = c.in_ok-item.item in
    let t = Named c.args.context.now.lists.0 (AndTyped Int NoTypeds) in
    gives_as n c.named.new.self t (integers s) c.in_ok-at.at k.lists
    (gives_then n n' c.named.new.self t c.in_ok-at.at i.grows
    (c.in_ok-at.ensures (AndTyped Int NoTypeds) i.grows.sound (
      x,
      [],
      c.in_ok-push.ensures.ok ∙ ap (λ l. l ++ x ∷ []) c.new-arguments.ensures,
      i.denotes,
      refl,
    )))
