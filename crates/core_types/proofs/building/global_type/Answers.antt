use Rattle.std.proofs.Common.{◌∙◌}
use Rattle.core_reader.specs.Tree.{function as function_tree}
use Rattle.core_types.proofs.Follows.{ok_then}
use Rattle.core_types.specs.SourceOf.{signature_of as signature_tree}
use Rattle.core_types.specs.Typing.{global_type, own_type, signed, used_at}
use Rattle.core_types.proofs.Instancing.{gives_as}
use Rattle.core_types.proofs.Meant.{known_global, signed_type, unsigned_type}
use Rattle.core_types.proofs.building.global_type.Goals as goal

pub returns-in-Some-signature : goal.returns-in-Some-signature
returns-in-Some-signature c = ok_then c.signed.result c.signed.ensures (λ term given.
    λ s k h.
    let f = function_tree c.in-Some.function.now in
    let g = signature_tree c.in-Some-signature.signature.now in
    gives_as c.args.nodes.now c.signed.new.nodes (signed s (used_at s c.args.at) g)
    (global_type s c.args.name.0 c.args.at) term
    (known_global s c.args.name.0 c.args.at f (c.in-Some.ensures s k) ∙ signed_type s f g c.args.at
    (c.in-Some-signature.ensures s k))
    (given s k.names h))

pub returns-in-None : goal.returns-in-None
returns-in-None c = ok_then c.own_type.result c.own_type.ensures (λ term given.
    λ s k h.
    let f = function_tree c.in-Some.function.now in
    gives_as c.args.nodes.now c.own_type.new.nodes (own_type s f)
    (global_type s c.args.name.0 c.args.at) term
    (known_global s c.args.name.0 c.args.at f (c.in-Some.ensures s k) ∙ unsigned_type s f c.args.at
    (c.in-None.ensures s k))
    (given s k h))
