use Rattle.std.proofs.Common.{[], ◌∷◌, refl}
use Rattle.core_reader.specs.Tree.{function as function_tree}
use Rattle.core_types.specs.SourceOf.{signature_of as signature_tree}
use Rattle.core_types.specs.declared.building.ConstraintBuilder.{ConstraintBuilder}
use Rattle.core_types.specs.Typing.{Rigid, constraint, signed, own_type, of_signature}
use Rattle.core_types.proofs.Denoting.{grows_then}
use Rattle.core_types.proofs.Gathered.{with_signature}
use Rattle.core_types.proofs.Adding.{adds_nodes, adds_then, adds_as}
use Rattle.core_types.proofs.building.ConstraintBuilder.signed.Goals as goal

pub returns : goal.returns
returns c = λ s k h.
    let b : ConstraintBuilder = c.args.self.now in
    let n1 = c.signed.new.nodes in
    let b2 : ConstraintBuilder = record b { nodes = c.own_type.new.nodes } in
    let b3 = c.equate.new.self in
    let f = function_tree c.args.function.now in
    let g = signature_tree c.in-Some.signature.now in
    let left = signed s (λ n. Rigid f.name n) g in
    let right = own_type s f in
    let l = c.in_ok-left.ensures s k.names h in
    let r = c.in_ok-right.ensures s k l.grows.sound in
    let own = constraint s f.at left right ∷ [] in
    adds_as b b3 own (of_signature s f) (with_signature s f g (c.in-Some.ensures s k))
    (adds_then b b2 b3 [] own
    (adds_nodes b b2 (grows_then b.nodes n1 b2.nodes l.grows r.grows) refl refl refl)
    (c.in_ok-equate.ensures s left right r.grows.sound
    (r.grows.one left c.in_ok-left.left l.denotes) r.denotes))
