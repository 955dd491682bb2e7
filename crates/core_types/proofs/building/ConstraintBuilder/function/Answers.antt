use Rattle.std.proofs.Common.{◌-◌, [], ◌++◌, length, drop, map, refl, sym, ap, subst, ◌∙◌}
use Rattle.core_reader.specs.Tree.{expr, function as function_tree}
use Rattle.core_types.specs.declared.building.ConstraintBuilder.{ConstraintBuilder}
use Rattle.core_types.specs.Typing.{param_type, result_type, binds_all, of_signature, of_expr, of_function}
use Rattle.core_types.specs.Nodes.{DenoteEach}
use Rattle.core_types.proofs.Denoting.{grows_then}
use Rattle.core_types.proofs.Instancing.{each_kept}
use Rattle.core_types.proofs.Adding.{adds_nodes, adds_then, adds_as, at_kept, enters_at, enters_after, leaves}
use Rattle.core_types.proofs.building.ConstraintBuilder.function.Goals as goal

pub returns : goal.returns
returns c = λ s k i.
    let a : ConstraintBuilder = c.args.self.now in
    let b : ConstraintBuilder = c.signed.new.self in
    let n1 = c.param_types.new.nodes in
    let b2 : ConstraintBuilder = record b { nodes = c.result_type.new.nodes } in
    let b3 : ConstraintBuilder = c.bind_all.new.self in
    let b4 : ConstraintBuilder = c.expression.new.self in
    let b5 : ConstraintBuilder = record b4 { scope = c.leave.new.self } in
    let f = function_tree c.args.function.now in
    let ts = map (param_type s f) c.args.function.now.params in
    let to = result_type s f in
    let bs = c.as_slice.result.now in
    let inner = binds_all s bs ts [] in
    let own = of_signature s f in
    let body = of_expr s inner to (expr c.args.function.now.body) in
    let h = c.in_ok-signed.ensures s k i.sound in
    let at = at_kept a b own [] h i in
    let ps = c.in_ok-params.ensures s k at.sound in
    let r = c.in_ok-result.ensures s k ps.grows.sound in
    let both = grows_then b.nodes n1 b2.nodes ps.grows r.grows in
    let at2 = at_kept b b2 [] [] (adds_nodes b b2 both refl refl refl) at in
    let e = c.in_ok-bind_all.ensures s [] ts k at2
    (subst (DenoteEach b2.nodes ts) (sym c.deref.ensures.value)
    (each_kept n1 b2.nodes r.grows ts c.in_ok-params.params.items ps.each)) in
    let x = c.in_ok-expression.ensures s inner to k (enters_at b2 b3 inner e)
    (e.grows.one to c.in_ok-result.result r.denotes) in
    adds_as a b5 (own ++ body) (of_function s f)
    (ap (λ bs. own ++ of_expr s (binds_all s bs ts []) to (expr c.args.function.now.body))
    (sym c.as_slice.ensures))
    (adds_then a b b5 own body h
    (leaves b b3 b4 b5 inner body (enters_after b b2 b3 inner both refl refl refl e) x refl refl
    refl
    (c.leave.ensures ∙ ap (λ n. drop (length b4.scope - n) b4.scope) c.len-depth.ensures)))
