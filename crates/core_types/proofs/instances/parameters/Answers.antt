use Rattle.std.proofs.Common.{get_or, arith}
use Rattle.core_reader.specs.declared.syntax.Binder.{Binder}
use Rattle.core_types.specs.Typing.{Open, AtUse}
use Rattle.core_types.proofs.Instancing.{one_given, uses_more}
use Rattle.core_types.proofs.instances.parameters.Goals as goal

pub loop-param-preserved : goal.loop-param-preserved
loop-param-preserved c = λ h.
    let none : Binder = record { name = record { 0 = 0 }; at = 0 } in
    let bs = c.args.params.now in
    let i = c.loop-param.param-index in
    let at = c.args.at in
    let g = c.loop-param.invariant h in
    one_given c.args.nodes.now c.loop-param.nodes c.variable.new.self _ _ c.loop-param.terms.items
    c.push.new.self.items (Open (AtUse at (get_or bs i none).name.0)) c.in_ok-variable.variable
    (uses_more at bs i none (omega arith)) c.in_ok-push.ensures.items g
    (c.in_ok-variable.ensures g.grows.sound)
