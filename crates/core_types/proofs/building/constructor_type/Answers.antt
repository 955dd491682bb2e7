use Rattle.std.proofs.Common.{sym, ap, subst, ◌∙◌}
use Rattle.core_types.proofs.Follows.{ok_then}
use Rattle.core_types.specs.SourceOf.{types_in, type_of, constructor_of}
use Rattle.core_types.specs.Typing.{arrows, applied, read_list, used_at, constructor_type}
use Rattle.core_types.specs.Nodes.{DenoteEach}
use Rattle.core_types.proofs.Denoting.{grows_then}
use Rattle.core_types.proofs.Instancing.{gives_as, gives_then, each_kept}
use Rattle.core_types.proofs.Meant.{known_constructor}
use Rattle.core_types.proofs.building.constructor_type.Goals as goal

pub returns : goal.returns
returns c = ok_then c.arrows.result c.arrows.ensures (λ term given.
    λ s k h.
    let n = c.args.nodes.now in
    let n' = c.read_all.new.nodes in
    let n'' = c.applied.new.nodes in
    let at = c.args.at in
    let d = type_of c.in-Some.found.declared.now in
    let b = constructor_of c.in-Some.found.constructor.now in
    let ws = c.as_slice-fields.result.now in
    let ts = read_list s (used_at s at) (types_in ws) in
    let to = applied s d (used_at s at) in
    let g = c.in_ok-from.ensures s k.names h in
    let r = c.in_ok-to.ensures s g.grows.sound in
    gives_as n c.arrows.new.nodes (arrows ts to) (constructor_type s c.args.name.0 at)
    term
    (known_constructor s c.args.name.0 at d b (c.in-Some.ensures s k) ∙ ap
    (λ ws. arrows (read_list s (used_at s at) (types_in ws)) to)
    (sym c.as_slice-fields.ensures))
    (gives_then n n'' c.arrows.new.nodes (arrows ts to) term
    (grows_then n n' n'' g.grows r.grows)
    (given ts to r.grows.sound
    (subst (DenoteEach n'' ts) (sym c.deref.ensures.value)
    (each_kept n' n'' r.grows ts c.in_ok-from.from.items g.each)) r.denotes)))
