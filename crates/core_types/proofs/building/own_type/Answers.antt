use Rattle.std.proofs.Common.{sym, subst, map}
use Rattle.core_reader.specs.Tree.{function as function_tree}
use Rattle.core_types.proofs.Follows.{ok_then}
use Rattle.core_types.specs.Typing.{arrows, param_type, result_type}
use Rattle.core_types.specs.Nodes.{DenoteEach}
use Rattle.core_types.proofs.Denoting.{grows_then}
use Rattle.core_types.proofs.Instancing.{gives_then, each_kept}
use Rattle.core_types.proofs.building.own_type.Goals as goal

pub returns : goal.returns
returns c = ok_then c.arrows.result c.arrows.ensures (λ at given.
    λ s k h.
    let n = c.args.nodes.now in
    let n' = c.param_types.new.nodes in
    let n'' = c.result_type.new.nodes in
    let f = function_tree c.args.function.now in
    let ts = map (param_type s f) c.args.function.now.params in
    let to = result_type s f in
    let g = c.in_ok-params.ensures s k h in
    let r = c.in_ok-result.ensures s k g.grows.sound in
    gives_then n n'' c.arrows.new.nodes (arrows ts to) at
    (grows_then n n' n'' g.grows r.grows)
    (given ts to r.grows.sound
    (subst (DenoteEach n'' ts) (sym c.deref.ensures.value)
    (each_kept n' n'' r.grows ts c.in_ok-params.params.items g.each)) r.denotes))
