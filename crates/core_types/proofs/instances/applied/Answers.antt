use Rattle.std.proofs.Common.{sym, subst, map}
use Rattle.core_reader.specs.declared.syntax.Binder.{Binder}
use Rattle.core_types.proofs.Follows.{ok_then}
use Rattle.core_types.specs.Typing.{Named, all_of, used_at}
use Rattle.core_types.specs.Nodes.{DenoteAll, AddsTermForType}
use Rattle.core_types.proofs.Instancing.{gives_then, all_denoted}
use Rattle.core_types.proofs.instances.applied.Goals as goal

pub returns : goal.returns
returns c = ok_then c.named.result c.named.ensures (λ at given.
    λ s h.
    let n' = c.parameters.new.nodes in
    let ts = map (λ (b : Binder). used_at s c.args.at b.name.0) c.as_slice.result.now in
    let g = c.in_ok-params.ensures s h in
    subst (λ bs. AddsTermForType c.args.nodes.now c.named.new.self
    (Named c.args.declared.now.name.name.0
    (all_of s (map (λ (b : Binder). used_at s c.args.at b.name.0) bs))) at)
    c.as_slice.ensures
    (gives_then c.args.nodes.now n' c.named.new.self
    (Named c.args.declared.now.name.name.0 (all_of s ts)) at g.grows
    (given (all_of s ts) g.grows.sound
    (subst (DenoteAll n' (all_of s ts)) (sym c.from_vec.ensures)
    (all_denoted n' s ts c.in_ok-params.params.items g.each)))))
