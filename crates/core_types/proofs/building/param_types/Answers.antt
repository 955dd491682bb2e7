use Rattle.std.proofs.Common.{get_or, subst, arith}
use Rattle.core_reader.specs.declared.syntax.Binder.{Binder}
use Rattle.core_reader.specs.Tree.{function as function_tree}
use Rattle.core_types.specs.Typing.{param_type}
use Rattle.core_types.specs.Instances.{AddsTermsForTypes}
use Rattle.core_types.proofs.Instancing.{one_given, map_one, map_whole}
use Rattle.core_types.proofs.building.param_types.Goals as goal

pub loop-param-preserved : goal.loop-param-preserved
loop-param-preserved c = λ s k h.
    let none : Binder = record { name = record { 0 = 0 }; at = 0 } in
    let f = param_type s (function_tree c.args.function.now) in
    let bs = c.as_slice-param-items.result.now in
    let i = c.loop-param.param-index in
    let g = c.loop-param.invariant s k h in
    one_given c.args.nodes.now c.loop-param.nodes c.param_type.new.nodes _ _
    c.loop-param.terms.items c.push.new.self.items (f (get_or bs i none)) c.in_ok-at.at
    (map_one f bs i none (omega arith)) c.in_ok-push.ensures.items g
    (c.in_ok-at.ensures s k g.grows.sound)

pub returns : goal.returns
returns c = λ s k h.
    subst (λ ts. AddsTermsForTypes c.args.nodes.now c.loop-param.nodes ts c.loop-param.terms.items)
    (map_whole (param_type s (function_tree c.args.function.now)) c.as_slice-param-items.result.now
    c.args.function.now.params c.loop-param.param-index c.as_slice-param-items.ensures
    (omega arith))
    (c.loop-param.invariant s k h)
